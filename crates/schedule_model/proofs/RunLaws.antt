-- What holds after every legal history.
use Rattle.std.proofs.Common.{◌≡◌, ℕ, Bool, true, false, List, [], ◌∷◌, ◌++◌, Option, None, Some, sym, ◌∙◌, ap, subst, refl, cond}
use Rattle.items.specs.Options.{◌>>=◌}
use Rattle.items.proofs.Binds.{some_is, bind_is}
use Rattle.history.specs.declared.entry.Entry.{Entry}
use Rattle.history.specs.declared.entry.What.{What}
use Rattle.history.specs.declared.entry.What.TheVariants.{Mount, Unmount, Step, Clock}
use Rattle.history.specs.Java.{is_java, java}
use Rattle.schedule_model.specs.Schedule.{opening_schedule}
use Rattle.schedule_model.specs.Entries.{after_step, after_tick, may_step, may_tick, mount, unmount}
use Rattle.schedule_model.specs.Run.{Machine, Scheduled, replay, schedule_from, scheduled_after, state_after, with_schedule}
use Rattle.schedule_model.specs.Woken.{IsScheduled}
use Rattle.schedule_model.specs.Changes.{IsReached, KeepsPromises}
use Rattle.schedule_model.specs.Laws.{IsAfter, RunsWithoutCarriers}
use Rattle.schedule_model.proofs.EntryLaws.{mount_keeps, step_keeps, tick_keeps, unmount_keeps}
use Rattle.schedule_model.proofs.OpeningLaws.{opens}

-- what is defined only under a test
pub under_is : {A : Type 0} (b : Bool) (o : Option A) (x : A) → cond b o None ≡ Some x → (b ≡ true) × (o ≡ Some x)
under_is true o x e = (refl, e)
under_is false o x e = absurd cc

-- ---- the state alone

replay-append : {S : Type 0} (m : Machine S) (r : S) (front back : List Entry) (q : S) → replay m r front ≡ Some q → replay m r (front ++ back) ≡ replay m q back
replay-append m r [] back q e = ap (λ o. o >>= λ x. replay m x back) e
replay-append m r (a ∷ front) back q e =
    let first = some_is (state_after m r a.what) (λ x. replay m x front) q e in
    bind_is (state_after m r a.what) (λ x. replay m x (front ++ back)) first.0 (replay m q back) first.1 (replay-append m first.0 front back q first.2)

reached_more : {S : Type 0} (m : Machine S) (r q : S) (e : Entry) → IsReached m r → state_after m r e.what ≡ Some q → IsReached m q
reached_more m r q e reached next =
    (reached.0 ++ e ∷ [], replay-append m m.opening reached.0 (e ∷ []) r reached.1 ∙ bind_is (state_after m r e.what) (λ x. replay m x []) q (Some q) next refl)

pub reached_step : {S : Type 0} (m : Machine S) (r q : S) (t n : ℕ) (pick : Option ℕ) → IsReached m r → m.steps r t n pick ≡ Some q → IsReached m q
reached_step m r q t n pick reached next = reached_more m r q (record { carrier = 0; what = Step t n pick }) reached next

pub reached_tick : {S : Type 0} (m : Machine S) (r q : S) (now : ℕ) → IsReached m r → m.tick r now ≡ Some q → IsReached m q
reached_tick m r q now reached next = reached_more m r q (record { carrier = 0; what = Clock now }) reached next

-- an entry does to the state what it does without carriers
state_of_entry : {S : Type 0} (m : Machine S) (v w : Scheduled S) (c : ℕ) (what : What) → scheduled_after m v c what ≡ Some w → state_after m v.state what ≡ Some w.state
state_of_entry m v w c (Mount t) e =
    let s = some_is (mount (m.look v.state) v.schedule c t) (λ s. Some (with_schedule v.state s)) w e in
    ap (λ o. o >>= λ x. Some x.state) s.2
state_of_entry m v w c (Unmount t) e =
    let s = some_is (unmount (m.look v.state) v.schedule c t) (λ s. Some (with_schedule v.state s)) w e in
    ap (λ o. o >>= λ x. Some x.state) s.2
state_of_entry m v w c (Step t n pick) e =
    let given = under_is (may_step (m.look v.state) v.schedule c t pick) _ w e in
    let q = some_is (m.steps v.state t n pick) (λ q. Some (with_schedule q (after_step (m.look v.state) (m.look q) v.schedule c t (m.yields v.state t n)))) w given.1 in
    q.1 ∙ ap (λ o. o >>= λ x. Some x.state) q.2
state_of_entry m v w c (Clock now) e =
    let given = under_is (may_tick (m.look v.state) v.schedule c) _ w e in
    let q = some_is (m.tick v.state now) (λ q. Some (with_schedule q (after_tick (m.look v.state) (m.look q) v.schedule c))) w given.1 in
    q.1 ∙ ap (λ o. o >>= λ x. Some x.state) q.2

java_step : {S : Type 0} (m : Machine S) (r q : S) (e : Entry) (what : What) (es : List Entry) → e.what ≡ what → state_after m r what ≡ Some q → replay m r (java (e ∷ es)) ≡ replay m q (java es)
java_step m r q e (Mount t) es is next =
    ap (λ w. replay m r (cond (is_java w) (e ∷ java es) (java es))) is ∙ ap (λ o. o >>= λ x. replay m x (java es)) next
java_step m r q e (Unmount t) es is next =
    ap (λ w. replay m r (cond (is_java w) (e ∷ java es) (java es))) is ∙ ap (λ o. o >>= λ x. replay m x (java es)) next
java_step m r q e (Step t n pick) es is next =
    ap (λ w. replay m r (cond (is_java w) (e ∷ java es) (java es))) is
    ∙ bind_is (state_after m r e.what) (λ x. replay m x (java es)) q (replay m q (java es)) (ap (state_after m r) is ∙ next) refl
java_step m r q e (Clock now) es is next =
    ap (λ w. replay m r (cond (is_java w) (e ∷ java es) (java es))) is
    ∙ bind_is (state_after m r e.what) (λ x. replay m x (java es)) q (replay m q (java es)) (ap (state_after m r) is ∙ next) refl

java_runs : {S : Type 0} (m : Machine S) (es : List Entry) (v w : Scheduled S) → schedule_from m v es ≡ Some w → replay m v.state (java es) ≡ Some w.state
java_runs m [] v w e = ap (λ o. o >>= λ x. Some x.state) e
java_runs m (a ∷ es) v w e =
    let first = some_is (scheduled_after m v a.carrier a.what) (λ u. schedule_from m u es) w e in
    java_step m v.state first.0.state a a.what es refl (state_of_entry m v first.0 a.carrier a.what first.1) ∙ java_runs m es first.0 w first.2

pub runs_without_carriers : {S : Type 0} (m : Machine S) → RunsWithoutCarriers m
runs_without_carriers m carriers history v e = java_runs m history (with_schedule m.opening (opening_schedule carriers)) v e

-- ---- the schedule

pub inner : {A : Type 0} (x y : A) → Some x ≡ Some y → x ≡ y
inner x y e = cc

entry_keeps : {S : Type 0} (m : Machine S) → KeepsPromises m → (v w : Scheduled S) (c : ℕ) (what : What) → scheduled_after m v c what ≡ Some w
    → IsReached m v.state → IsReached m w.state → IsScheduled (m.look v.state) v.schedule → IsScheduled (m.look w.state) w.schedule
entry_keeps m promises v w c (Mount t) e old new is =
    let s = some_is (mount (m.look v.state) v.schedule c t) (λ s. Some (with_schedule v.state s)) w e in
    subst (λ (x : Scheduled _). IsScheduled (m.look x.state) x.schedule) (inner (with_schedule v.state s.0) w s.2) (mount_keeps (m.look v.state) v.schedule s.0 c t s.1 is)
entry_keeps m promises v w c (Unmount t) e old new is =
    let s = some_is (unmount (m.look v.state) v.schedule c t) (λ s. Some (with_schedule v.state s)) w e in
    subst (λ (x : Scheduled _). IsScheduled (m.look x.state) x.schedule) (inner (with_schedule v.state s.0) w s.2) (unmount_keeps (m.look v.state) v.schedule s.0 c t s.1 (promises.looks v.state old) is)
entry_keeps m promises v w c (Step t n pick) e old new is =
    let given = under_is (may_step (m.look v.state) v.schedule c t pick) _ w e in
    let q = some_is (m.steps v.state t n pick) (λ q. Some (with_schedule q (after_step (m.look v.state) (m.look q) v.schedule c t (m.yields v.state t n)))) w given.1 in
    let same = inner (with_schedule q.0 (after_step (m.look v.state) (m.look q.0) v.schedule c t (m.yields v.state t n))) w q.2 in
    let reached : IsReached m q.0 = subst (IsReached m) (sym (ap (λ (x : Scheduled _). x.state) same)) new in
    subst (λ (x : Scheduled _). IsScheduled (m.look x.state) x.schedule) same
    (step_keeps (m.look v.state) (m.look q.0) v.schedule c t pick (m.yields v.state t n) given.0 (promises.looks v.state old) (promises.looks q.0 reached) (promises.steps v.state q.0 t n pick old q.1) is)
entry_keeps m promises v w c (Clock now) e old new is =
    let given = under_is (may_tick (m.look v.state) v.schedule c) _ w e in
    let q = some_is (m.tick v.state now) (λ q. Some (with_schedule q (after_tick (m.look v.state) (m.look q) v.schedule c))) w given.1 in
    let same = inner (with_schedule q.0 (after_tick (m.look v.state) (m.look q.0) v.schedule c)) w q.2 in
    let reached : IsReached m q.0 = subst (IsReached m) (sym (ap (λ (x : Scheduled _). x.state) same)) new in
    subst (λ (x : Scheduled _). IsScheduled (m.look x.state) x.schedule) same
    (tick_keeps (m.look v.state) (m.look q.0) v.schedule c given.0 (promises.looks v.state old) (promises.looks q.0 reached) (promises.ticks v.state q.0 now old q.1) is)

run_keeps : {S : Type 0} (m : Machine S) → KeepsPromises m → (es : List Entry) (v w : Scheduled S) → schedule_from m v es ≡ Some w
    → IsReached m v.state → IsScheduled (m.look v.state) v.schedule → IsReached m w.state × IsScheduled (m.look w.state) w.schedule
run_keeps m promises [] v w e reached is =
    let same = inner v w e in
    (subst (λ (x : Scheduled _). IsReached m x.state) same reached, subst (λ (x : Scheduled _). IsScheduled (m.look x.state) x.schedule) same is)
run_keeps m promises (a ∷ es) v w e reached is =
    let first = some_is (scheduled_after m v a.carrier a.what) (λ u. schedule_from m u es) w e in
    let more = reached_more m v.state first.0.state a reached (state_of_entry m v first.0 a.carrier a.what first.1) in
    run_keeps m promises es first.0 w first.2 more (entry_keeps m promises v first.0 a.carrier a.what first.1 reached more is)

pub scheduled : {S : Type 0} (m : Machine S) (v : Scheduled S) → IsAfter m v → IsReached m v.state × IsScheduled (m.look v.state) v.schedule
scheduled m v a =
    run_keeps m a.promises a.history (with_schedule m.opening (opening_schedule a.carriers)) v a.runs ([], refl) (opens m a.promises a.carriers a.some)
