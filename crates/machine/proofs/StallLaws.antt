-- When a program can go on no more, by those that are mounted and by the deques.
use Rattle.std.proofs.Common.{◌≡◌, ◌+◌, ◌<◌, ◌≤◌, inl, inr, ℕ, zero, suc, Bool, true, false, List, [], ◌∷◌, Option, None, Some, length, slice_get, refl, ap, sym, subst, ◌∙◌, arith, cond, not, ◌&&◌, ◌||◌}
use Rattle.std.specs.Prelude.{is_some, nat_lt, sum_by}
use Rattle.std.specs.List.{list_any, range_with_len}
use Rattle.std.specs.Option.{option_map_or}
use Rattle.std.proofs.lemmas.Bool.Decides.{eqb_tells}
use Rattle.std.proofs.lemmas.Bool.{and_right, cases_Bool, cases_lt, lt-ltb, ltb-true, or_parts}
use Rattle.std.proofs.lemmas.List.Folds.{Any-from_list_any}
use Rattle.std.proofs.lemmas.List.Sums.{sum_by-cons}
use Rattle.std.proofs.lemmas.Option.{slice_get_within}
use Rattle.vthread_state.specs.declared.phase.Phase.TheVariants.{Run, Throwing, Entering, Waiting, Reenter, Parked, Asleep, Joining}
use Rattle.vthread_state.specs.declared.thread.Status.{Status}
use Rattle.vthread_state.specs.declared.thread.Status.TheVariants.{New, Live, Done}
use Rattle.thread_lists.specs.Lists.{count, total}
use Rattle.thread_lists.proofs.CountLaws.{count-other}
use Rattle.schedule_model.specs.Look.{Look, is_live}
use Rattle.schedule_model.specs.Schedule.{on_carriers, times}
use Rattle.schedule_model.specs.Puts.{all_threads}
use Rattle.schedule_model.specs.Run.{Scheduled}
use Rattle.schedule_model.specs.Stalled.{can_go_on, has_time}
use Rattle.ref_model.specs.State.{JavaThread, State}
use Rattle.ref_model.specs.Ending.{ending}
use Rattle.ref_model.specs.Setting.{Setting}
use Rattle.ref_model.specs.Enabled.{is_ready}
use Rattle.ref_model.specs.Step.{enabled}
use Rattle.ref_model.specs.Looks.{deadline_in, is_stalled, look_of, spot_of}
use Rattle.schedule_soundness.specs.HistoryLaws.{IsProgramAfter}
use Rattle.schedule_soundness.proofs.Histories.{deques_have_live}
use Rattle.schedule_soundness.proofs.OtherMoves.{spot_at}
use Rattle.schedule_soundness.proofs.Stalls.{stalls_by_places}
use Rattle.program_state.specs.declared.state.ProgramState.{ProgramState}
use Rattle.program_state.specs.Deadlines.{coming_deadline, deadlines_of, later_than}
use Rattle.program_state.specs.States.{IsState}
use Rattle.machine.specs.Stalls.{DequesAreBelow, goes_on}
use Rattle.machine.proofs.StateLaws.{below_count, live_at}

no_both : (b : Bool) → b ≡ true → b ≡ false → ⊥
no_both b i j = absurd cc

-- ---- a thread that may step

any_range : (f : ℕ → Bool) (n a t : ℕ) → list_any f (range_with_len a n) ≡ false → a ≤ t → t < a + n → f t ≡ false
any_range f zero a t e le lt = absurd (omega arith)
any_range f (suc n) a t e le lt =
    elim (cases_Bool (f a)) [
      | inl yes_it ↦ absurd (no_both (f a || list_any f (range_with_len (a + 1) n)) (ap (λ b. b || list_any f (range_with_len (a + 1) n)) yes_it) e)
      | inr no_it ↦
          let rest : list_any f (range_with_len (a + 1) n) ≡ false = sym (ap (λ b. b || list_any f (range_with_len (a + 1) n)) no_it) ∙ e in
          elim (cases_lt a t) [
            | inl later ↦ any_range f n (a + 1) t rest (omega arith) (omega arith)
            | inr here ↦ let same : a ≡ t = omega arith in subst (λ u. f u ≡ false) same no_it
          ]
    ]

enabled_there : (r : State) (t : ℕ) → enabled r t ≡ true → t < length r.threads
enabled_there r t on = by (slice_get r.threads t) refl
  where
    by : (o : Option JavaThread) → slice_get r.threads t ≡ o → t < length r.threads
    by None e = absurd (no_both (enabled r t) on (and_right _ _ (ap (λ o. option_map_or (λ (x : JavaThread). is_ready r x x.thread.status) o false) e)))
    by (Some x) e = slice_get_within r.threads t x e

-- a thread that may step, or will by itself, keeps a program from being stalled
one_goes : (p : Setting) (r : State) (t : ℕ) → t < length r.threads → can_go_on (look_of p.world r) t ≡ true → is_stalled p.world r ≡ false
one_goes p r t there on =
    elim (cases_Bool (list_any (can_go_on (look_of p.world r)) (all_threads (look_of p.world r)))) [
      | inl some_go ↦ and_right (not (is_some (ending r))) _ (ap not some_go)
      | inr none_go ↦
          absurd (no_both (can_go_on (look_of p.world r) t) on (any_range (can_go_on (look_of p.world r)) (length r.threads) 0 t none_go (omega arith) (omega arith)))
    ]

pub enabled_goes : (p : Setting) (r : State) (t : ℕ) → enabled r t ≡ true → is_stalled p.world r ≡ false
enabled_goes p r t on = one_goes p r t (enabled_there r t on) (ap (λ b. b || has_time (look_of p.world r) t) on)

-- ---- a thread with a deadline to come

timed_status : (now d : ℕ) (status : Status) → later_than now (deadline_in status) ≡ Some d → (deadline_in status ≡ Some d) × (now < d)
timed_status now d status e = by (deadline_in status) refl
  where
    by : (o : Option ℕ) → deadline_in status ≡ o → (deadline_in status ≡ Some d) × (now < d)
    by None is = let no : ◌≡◌ {A = Option ℕ} None (Some d) = sym (ap (later_than now) is) ∙ e in absurd cc
    by (Some k) is =
        elim (cases_Bool (nat_lt now k)) [
          | inl later ↦
              let one : ◌≡◌ {A = Option ℕ} (Some k) (Some d) = sym (ap (λ b. cond b (Some k) None) later) ∙ sym (ap (later_than now) is) ∙ e in
              (is ∙ one, subst (λ n. now < n) (ap (λ o. option_map_or (λ n. n) o 0) one) (ltb-true now k later))
          | inr not_later ↦ let no : ◌≡◌ {A = Option ℕ} None (Some d) = sym (ap (λ b. cond b (Some k) None) not_later) ∙ sym (ap (later_than now) is) ∙ e in absurd cc
        ]

timed_live : (status : Status) (d : ℕ) → deadline_in status ≡ Some d → is_live (spot_of status) ≡ true
timed_live New d e = absurd cc
timed_live Done d e = absurd cc
timed_live (Live Run) d e = refl
timed_live (Live (Throwing o)) d e = refl
timed_live (Live (Entering o)) d e = refl
timed_live (Live (Waiting o n deadline)) d e = refl
timed_live (Live (Reenter o n wake)) d e = refl
timed_live (Live (Parked deadline)) d e = refl
timed_live (Live (Asleep deadline)) d e = refl
timed_live (Live (Joining u deadline)) d e = refl

and_true : (a b : Bool) → a ≡ true → b ≡ true → (a && b) ≡ true
and_true a b e f = ap (λ x. x && b) e ∙ f

pub or_true : (a b : Bool) → b ≡ true → (a || b) ≡ true
or_true true b e = refl
or_true false b e = e

-- what has_time tests, for a deadline that is there
timed_look : (l : Look) (t d : ℕ) → is_live (l.spot t) ≡ true → l.deadline t ≡ Some d → l.now < d → has_time l t ≡ true
timed_look l t d live has later = rw has (and_true (is_live (l.spot t)) (nat_lt l.now d) live (lt-ltb l.now d later))

pub timed_has : (p : Setting) (r : State) (t d : ℕ) → deadlines_of r.now r.threads t ≡ Some d → (t < length r.threads) × (has_time (look_of p.world r) t ≡ true)
timed_has p r t d e = by (slice_get r.threads t) refl
  where
    by : (o : Option JavaThread) → slice_get r.threads t ≡ o → (t < length r.threads) × (has_time (look_of p.world r) t ≡ true)
    by None at = let no : ◌≡◌ {A = Option ℕ} None (Some d) = sym (ap (coming_deadline r.now) at) ∙ e in absurd cc
    by (Some x) at =
        let timed = timed_status r.now d x.thread.status (sym (ap (coming_deadline r.now) at) ∙ e) in
        let has : (look_of p.world r).deadline t ≡ Some d = ap (λ o. option_map_or (λ (y : JavaThread). deadline_in y.thread.status) o None) at ∙ timed.0 in
        let live : is_live ((look_of p.world r).spot t) ≡ true = ap (λ o. is_live (spot_at o)) at ∙ timed_live x.thread.status d timed.0 in
        (slice_get_within r.threads t x at, timed_look (look_of p.world r) t d live has timed.1)

pub timed_goes : (p : Setting) (r : State) (t d : ℕ) → deadlines_of r.now r.threads t ≡ Some d → is_stalled p.world r ≡ false
timed_goes p r t d e = let h = timed_has p r t d e in one_goes p r t h.0 (or_true (enabled r t) (has_time (look_of p.world r) t) h.1)

-- ---- a thread in a deque may step

pub deque_goes : (p : Setting) (r : State) (deques : List (List ℕ)) → list_any (list_any (enabled r)) deques ≡ true → is_stalled p.world r ≡ false
deque_goes p r deques e =
    let deque = Any-from_list_any (list_any (enabled r)) deques e in
    let thread = Any-from_list_any (enabled r) deque.1 deque.4 in
    enabled_goes p r thread.1 thread.4

-- those in deques are in the table
pub deques_below : (p : Setting) (first : State) (v : Scheduled State) (state : ProgramState) (out : ℕ → Bool) → IsProgramAfter p first v
    → ending v.state ≡ None → IsState state v.state out → DequesAreBelow v.schedule.deques (length state.threads.threads)
deques_below p first v state out a going is t there =
    let live = live_at p.world v.state t (deques_have_live p first v a (ap is_some going) t there).0 in
    below_count state v.state out t live.live.thread is live.live.at

-- ---- a mounted thread may step

pub mounted_goes : (p : Setting) (r : State) (mounted : List (Option ℕ)) → list_any (goes_on r) mounted ≡ true → is_stalled p.world r ≡ false
mounted_goes p r [] e = absurd cc
mounted_goes p r (None ∷ mounted) e = mounted_goes p r mounted e
mounted_goes p r (Some t ∷ mounted) e =
    elim (cases_Bool (enabled r t)) [
      | inl on ↦ enabled_goes p r t on
      | inr off ↦ mounted_goes p r mounted (sym (ap (λ b. b || list_any (goes_on r) mounted) off) ∙ e)
    ]

-- ---- none may step

none_mounted : (r : State) (t : ℕ) (mounted : List (Option ℕ)) → list_any (goes_on r) mounted ≡ false → 0 < sum_by (times t) mounted → enabled r t ≡ false
none_mounted r t [] e there = absurd (omega arith)
none_mounted r t (None ∷ mounted) e there = none_mounted r t mounted e (omega (arith, sum_by-cons (times t) None mounted))
none_mounted r t (Some u ∷ mounted) e there =
    let off = or_parts (enabled r u) (list_any (goes_on r) mounted) e in
    elim (eqb_tells u t) [
      | inl here ↦ subst (λ w. enabled r w ≡ false) here.1 off.0
      | inr other ↦
          let none : ◌≡◌ {A = ℕ} (times t (Some u)) 0 = ap (λ b. cond b 1 0) other.0 in
          none_mounted r t mounted off.1 (omega (arith, sum_by-cons (times t) (Some u) mounted))
    ]

-- a thread without a deadline to come has no time
untimed_look : (l : Look) (t : ℕ) (o : Option ℕ) → l.deadline t ≡ o → later_than l.now o ≡ None → has_time l t ≡ false
untimed_look l t None e none = rw e (and_right (is_live (l.spot t)) false refl)
untimed_look l t (Some d) e none =
    elim (cases_Bool (nat_lt l.now d)) [
      | inl later ↦ let no : ◌≡◌ {A = Option ℕ} (Some d) None = sym (ap (λ b. cond b (Some d) None) later) ∙ none in absurd cc
      | inr not_later ↦ rw e (and_right (is_live (l.spot t)) (nat_lt l.now d) not_later)
    ]

pub no_time : (p : Setting) (r : State) (t : ℕ) → deadlines_of r.now r.threads t ≡ None → has_time (look_of p.world r) t ≡ false
no_time p r t none = by (slice_get r.threads t) refl
  where
    by : (o : Option JavaThread) → slice_get r.threads t ≡ o → has_time (look_of p.world r) t ≡ false
    by None at = untimed_look (look_of p.world r) t None (ap (λ o. option_map_or (λ (y : JavaThread). deadline_in y.thread.status) o None) at) refl
    by (Some x) at =
        untimed_look (look_of p.world r) t (deadline_in x.thread.status) (ap (λ o. option_map_or (λ (y : JavaThread). deadline_in y.thread.status) o None) at)
        (sym (ap (coming_deadline r.now) at) ∙ none)

none_in_list : (r : State) (t : ℕ) (us : List ℕ) → list_any (enabled r) us ≡ false → 0 < count t us → enabled r t ≡ false
none_in_list r t [] e there = absurd (omega arith)
none_in_list r t (u ∷ us) e there =
    let off = or_parts (enabled r u) (list_any (enabled r) us) e in
    elim (eqb_tells u t) [
      | inl here ↦ subst (λ w. enabled r w ≡ false) here.1 off.0
      | inr other ↦ none_in_list r t us off.1 (omega (arith, count-other t u us other.1))
    ]

none_in_deques : (r : State) (t : ℕ) (deques : List (List ℕ)) → list_any (list_any (enabled r)) deques ≡ false → 0 < total (count t) deques
    → enabled r t ≡ false
none_in_deques r t [] e there = absurd (omega arith)
none_in_deques r t (us ∷ deques) e there =
    let off = or_parts (list_any (enabled r) us) (list_any (list_any (enabled r)) deques) e in
    elim (cases_lt 0 (count t us)) [
      | inl here ↦ none_in_list r t us off.0 here
      | inr none ↦ none_in_deques r t deques off.1 (omega (arith, sum_by-cons (count t) us deques))
    ]

pub none_goes : (p : Setting) (first : State) (v : Scheduled State) → IsProgramAfter p first v → ending v.state ≡ None
    → ((t : ℕ) → deadlines_of v.state.now v.state.threads t ≡ None) → list_any (list_any (enabled v.state)) v.schedule.deques ≡ false
    → list_any (goes_on v.state) v.schedule.mounted ≡ false → is_stalled p.world v.state ≡ true
none_goes p first v a going timeless in_deques off =
    stalls_by_places p first v a (ap is_some going) (λ t there.
    elim (cases_lt 0 (on_carriers t v.schedule)) [
      | inl on ↦ none_mounted v.state t v.schedule.mounted off on
      | inr not_on ↦ none_in_deques v.state t v.schedule.deques in_deques (omega arith)
    ])
    (λ t. no_time p v.state t (timeless t))
