-- The hand of a carrier fits after entries of others.
use Rattle.std.proofs.Common.{◌≡◌, ◌≢◌, ◌<◌, ◌≤◌, ℕ, zero, suc, true, false, not, List, [], ◌∷◌, ◌++◌, Option, Some, None, slice_get, refl, ap, sym, ◌∙◌, subst, cond, arith, get_or, set}
use Rattle.std.specs.Prelude.{is_some}
use Rattle.std.proofs.lemmas.Bool.{and_parts, eq-eqb}
use Rattle.std.proofs.lemmas.List.Sums.{get_or-le-sum_by, sum_by-set}
use Rattle.std.proofs.lemmas.Option.{slice_get_within, get_or_from_slice_get}
use Rattle.items.specs.First.{Each}
use Rattle.items.specs.Options.{◌>>=◌}
use Rattle.items.proofs.Binds.{some_is, bind_is}
use Rattle.history.specs.declared.entry.Entry.{Entry}
use Rattle.history.specs.declared.entry.What.{What}
use Rattle.history.specs.declared.entry.What.TheVariants.{Mount, Unmount, Step, Clock}
use Rattle.vthread_state.specs.declared.phase.Phase.{Phase}
use Rattle.vthread_state.specs.declared.phase.Phase.TheVariants as phases
use Rattle.vthread_state.specs.declared.thread.Status.{Status}
use Rattle.vthread_state.specs.declared.thread.Status.TheVariants.{New, Live}
use Rattle.link_model.specs.World.{World}
use Rattle.state_model.specs.Frames.{Frame}
use Rattle.schedule_model.specs.Schedule.{Schedule, places, times}
use Rattle.schedule_model.specs.Entries.{after_step, has_mounted, holds, is_idle, is_vacant, may_step, may_unmount, mount, unmount}
use Rattle.schedule_model.specs.Run.{Scheduled, schedule_from, schedule_of, scheduled_after, with_schedule}
use Rattle.schedule_model.proofs.EntryLaws.{holds_is}
use Rattle.schedule_model.proofs.PrefixLaws.{histories_go_on as entries_after}
use Rattle.schedule_model.proofs.RunLaws.{inner, under_is}
use Rattle.ref_model.specs.Setting.{Setting}
use Rattle.ref_model.specs.State.{JavaThread, State}
use Rattle.ref_model.specs.Ending.{ending}
use Rattle.ref_model.specs.LocalRows.{rows}
use Rattle.ref_model.specs.Opening.{opening}
use Rattle.ref_model.specs.Run.{steps, after_steps}
use Rattle.ref_model.specs.Step.{step}
use Rattle.ref_model.specs.Entries.{is_grouped}
use Rattle.ref_model.specs.Looks.{grouped_steps, look_of, machine_from, yields_after}
use Rattle.schedule_soundness.specs.HistoryLaws.{IsProgramAfter}
use Rattle.schedule_soundness.specs.Moves.{Moved, still, told, woken, started, made}
use Rattle.schedule_soundness.proofs.Histories.{histories_go_on, in_one_place, mounted_left}
use Rattle.schedule_soundness.proofs.OtherMoves.{time_moves}
use Rattle.schedule_soundness.proofs.Outlasting.{owed_outlasts, unmounts_outlast}
use Rattle.schedule_soundness.proofs.Reached.{grouped_is}
use Rattle.schedule_soundness.proofs.Steps.{step_moves}
use Rattle.schedule_soundness.proofs.ThreadLists.{set_other}
use Rattle.frame_soundness.specs.Typed.{Typed}
use Rattle.invocation.specs.InvocationCache.{AreSelected}
use Rattle.continuation.specs.Continuation.{Continuation}
use Rattle.machine.specs.Hands.{HasHand, HasPhase, Holds, Idle, IsLiveIn, Lives, OwesNothing}
use Rattle.machine.specs.Legal.{IsLegal}
use Rattle.machine.specs.Machines.{Known, machine_ending, scheduled, with_entry}
use Rattle.carrier_turns.specs.declared.hand.Hand.{Hand}
use Rattle.carrier_turns.specs.Hands.{Fits, HasToLeave, HoldsRightly, IsInOtherPhase, IsNotRunning, nothing, frozen, leaving, running, stopped, waiting, over}
use Rattle.carrier_turns.specs.LocalRuns.{HasStopped}
use Rattle.carrier_turns.specs.Steps.{MountedBy, ran, waits}
use Rattle.carrier_turns.proofs.EndingLaws.{going, not_both}
use Rattle.carrier_turns.proofs.EntryLaws.{LastEntry, last_entry}
use Rattle.carrier_turns.proofs.HistoryLaws.{is_program_after}
use Rattle.carrier_turns.proofs.TickLaws.{Ticks, tick_allows, ticked}

-- ---- a thread that doesn't step

-- it is live, with these frames, and runs where it did in this phase, and there alone
record IsWith (r : State) (t : ℕ) (frames : List Frame) (before : Phase) : Type 0 where
  thread : JavaThread
  at : slice_get r.threads t ≡ Some thread
  phase : Phase
  status : thread.thread.status ≡ Live phase
  runs : before ≡ phases.Run → phase ≡ phases.Run
  waits : (before ≡ phases.Run → ⊥) → phase ≡ phases.Run → ⊥
  has : thread.frames ≡ frames

same_thread : (o : Option JavaThread) (x y : JavaThread) → o ≡ Some x → o ≡ Some y → x ≡ y
same_thread o x y e f = cc

no_thread : (o : Option JavaThread) (x : JavaThread) → o ≡ None → o ≡ Some x → ⊥
no_thread o x e f = cc

same_live : (a b : Phase) → ◌≡◌ {A = Status} (Live a) (Live b) → a ≡ b
same_live a b e = cc

new_or_live : (s : Status) (a : Phase) → s ≡ New → s ≡ Live a → ⊥
new_or_live s a e f = absurd (let z = sym e ∙ f in cc)

moved_with : (w : World) (r q : State) (t : ℕ) (frames : List Frame) (b : Phase) → Moved w (slice_get r.threads t) (slice_get q.threads t)
    → IsWith r t frames b → IsWith q t frames b
moved_with w r q t frames b (still same) x =
    record { thread = x.thread; at = same ∙ x.at; phase = x.phase; status = x.status; runs = x.runs; waits = x.waits; has = x.has }
moved_with w r q t frames b (told y z there after status kept permit interrupt) x =
    let here : y ≡ x.thread = same_thread (slice_get r.threads t) y x.thread there x.at in
    record {
      thread = z;
      at = after;
      phase = x.phase;
      status = status ∙ ap (λ (u : JavaThread). u.thread.status) here ∙ x.status;
      runs = x.runs;
      waits = x.waits;
      has = kept ∙ ap (λ (u : JavaThread). u.frames) here ∙ x.has;
    }
moved_with w r q t frames b (woken y z o count deadline wake there after was is kept) x =
    let here : y ≡ x.thread = same_thread (slice_get r.threads t) y x.thread there x.at in
    let phase : phases.Waiting o count deadline ≡ x.phase =
    same_live (phases.Waiting o count deadline) x.phase (sym was ∙ ap (λ (u : JavaThread). u.thread.status) here ∙ x.status) in
    record {
      thread = z;
      at = after;
      phase = phases.Reenter o count wake;
      status = is;
      runs = λ on. absurd (let e = phase ∙ x.runs on in cc);
      waits = λ off e. absurd cc;
      has = kept ∙ ap (λ (u : JavaThread). u.frames) here ∙ x.has;
    }
moved_with w r q t frames b (started y z there after new is) x =
    let here : y ≡ x.thread = same_thread (slice_get r.threads t) y x.thread there x.at in
    absurd (new_or_live x.thread.thread.status x.phase (sym (ap (λ (u : JavaThread). u.thread.status) here) ∙ new) x.status)
moved_with w r q t frames b (made y there after new empty) x = absurd (no_thread (slice_get r.threads t) x.thread there x.at)

step_with : (p : Setting) (r q : State) (t u : ℕ) (pick : Option ℕ) (frames : List Frame) (b : Phase) → t ≢ u → step p r u pick ≡ Some q
    → IsWith r t frames b → IsWith q t frames b
step_with p r q t u pick frames b ne e x = moved_with p.world r q t frames b ((step_moves p r q u pick e).stepped.moves.others t ne) x

inner_state : (r q : State) → ◌≡◌ {A = Option State} (Some r) (Some q) → r ≡ q
inner_state r q e = cc

steps_with : (p : Setting) (n : ℕ) (r q : State) (t u : ℕ) (frames : List Frame) (b : Phase) → t ≢ u → steps p n r u ≡ Some q
    → IsWith r t frames b → IsWith q t frames b
steps_with p zero r q t u frames b ne e x = subst (λ s. IsWith s t frames b) (inner_state r q e) x
steps_with p (suc n) r q t u frames b ne e x =
    let s = some_is (steps p n r u) (λ s. step p s u None) q e in
    step_with p s.0 q t u None frames b ne s.2 (steps_with p n r s.0 t u frames b ne s.1 x)

entry_with : (p : Setting) (n : ℕ) (r q : State) (t u : ℕ) (pick : Option ℕ) (frames : List Frame) (b : Phase) → t ≢ u → after_steps p r u n pick ≡ Some q
    → IsWith r t frames b → IsWith q t frames b
entry_with p zero r q t u pick frames b ne e x = absurd cc
entry_with p (suc n) r q t u pick frames b ne e x =
    let s = some_is (steps p n r u) (λ s. step p s u pick) q e in
    step_with p s.0 q t u pick frames b ne s.2 (steps_with p n r s.0 t u frames b ne s.1 x)

-- ---- entries of other carriers

another : (s : Schedule) (c k t u : ℕ) → ((x : ℕ) → places x s ≤ 1) → k ≢ c → has_mounted s c t ≡ true → has_mounted s k u ≡ true → t ≢ u
another s c k t u once ne here there same =
    let at_c = holds_is t (slice_get s.mounted c) here in
    let at_k : slice_get s.mounted k ≡ Some (Some t) = holds_is u (slice_get s.mounted k) there ∙ ap (λ x. Some (Some x)) (sym same) in
    let rest = set s.mounted c None in
    let still : slice_get rest k ≡ Some (Some t) = set_other s.mounted c k None ne ∙ at_k in
    let one : times t (Some t) ≡ 1 = ap (λ b. cond b 1 0) (eq-eqb t t refl) in
    let first : times t (get_or s.mounted c None) ≡ 1 = ap (times t) (get_or_from_slice_get s.mounted c (Some t) None at_c) ∙ one in
    let second : times t (get_or rest k None) ≡ 1 = ap (times t) (get_or_from_slice_get rest k (Some t) None still) ∙ one in
    omega (
      arith,
      once t,
      first,
      second,
      sum_by-set (times t) s.mounted c None None (slice_get_within s.mounted c (Some t) at_c),
      get_or-le-sum_by (times t) rest k None (slice_get_within rest k (Some t) still),
    )

-- time that goes on leaves a thread its frames
tick_with : (p : Setting) (first : State) (v w : Scheduled State) (k now t : ℕ) (frames : List Frame) (b : Phase)
    → scheduled_after (machine_from p first) v k (Clock now) ≡ Some w → IsWith v.state t frames b → IsWith w.state t frames b
tick_with p first v w k now t frames b e x =
    let tick = ticked p first v w k now e in
    moved_with p.world v.state w.state t frames b (time_moves p.world v.state w.state t now tick.tick) x

what_with : (p : Setting) (first : State) (v w : Scheduled State) (k t : ℕ) (frames : List Frame) (b : Phase) (what : What)
    → ((u : ℕ) → has_mounted v.schedule k u ≡ true → t ≢ u) → scheduled_after (machine_from p first) v k what ≡ Some w
    → IsWith v.state t frames b → IsWith w.state t frames b
what_with p first v w k t frames b (Mount u) apart e x =
    let s = some_is (mount (look_of p.world v.state) v.schedule k u) (λ s. Some (with_schedule v.state s)) w e in
    subst (λ (y : Scheduled State). IsWith y.state t frames b) (inner (with_schedule v.state s.0) w s.2) x
what_with p first v w k t frames b (Unmount u) apart e x =
    let s = some_is (unmount (look_of p.world v.state) v.schedule k u) (λ s. Some (with_schedule v.state s)) w e in
    subst (λ (y : Scheduled State). IsWith y.state t frames b) (inner (with_schedule v.state s.0) w s.2) x
what_with p first v w k t frames b (Step u n pick) apart e x =
    let l = look_of p.world in
    let given = under_is (may_step (l v.state) v.schedule k u pick) _ w e in
    let q = some_is (grouped_steps p v.state u n pick)
    (λ q. Some (with_schedule q (after_step (l v.state) (l q) v.schedule k u (yields_after p v.state u n)))) w given.1 in
    let same = inner (with_schedule q.0 (after_step (l v.state) (l q.0) v.schedule k u (yields_after p v.state u n))) w q.2 in
    let made = (grouped_is (is_grouped p.world v.state u n) (after_steps p v.state u n pick) q.0 q.1).1 in
    subst (λ (y : Scheduled State). IsWith y.state t frames b) same
    (entry_with p n v.state q.0 t u pick frames b (apart u (and_parts (has_mounted v.schedule k u) _ given.0).0) made x)
what_with p first v w k t frames b (Clock now) apart e x = tick_with p first v w k now t frames b e x

-- what a carrier has mounted, of whom this is known, it has after any entries of others
record IsOn (v : Scheduled State) (c t : ℕ) (frames : List Frame) (before : Phase) : Type 0 where
  mounted : has_mounted v.schedule c t ≡ true
  thread : IsWith v.state t frames before

on_outlasts : (p : Setting) (first : State) (es : List Entry) (v w : Scheduled State) (c t : ℕ) (frames : List Frame) (b : Phase) → IsProgramAfter p first v
    → Each (λ (e : Entry). e.carrier ≢ c) es → schedule_from (machine_from p first) v es ≡ Some w → IsOn v c t frames b → IsOn w c t frames b
on_outlasts p first [] v w c t frames b a others e x = subst (λ y. IsOn y c t frames b) (inner v w e) x
on_outlasts p first (y ∷ es) v w c t frames b a others e x =
    let u = some_is (scheduled_after (machine_from p first) v y.carrier y.what) (λ u. schedule_from (machine_from p first) u es) w e in
    let apart : (z : ℕ) → has_mounted v.schedule y.carrier z ≡ true → t ≢ z =
    λ z there. another v.schedule c y.carrier t z (λ x. in_one_place p first v a x) others.0 x.mounted there in
    on_outlasts p first es u.0 w c t frames b (histories_go_on p first v u.0 a y.carrier y.what u.1) others.1 u.2 (record {
      mounted = ap (holds t) (mounted_left p first v u.0 a c y.carrier y.what others.0 u.1) ∙ x.mounted;
      thread = what_with p first v u.0 y.carrier t frames b y.what apart u.1 x.thread;
    })

idle_outlasts : (p : Setting) (first : State) (es : List Entry) (v w : Scheduled State) (c : ℕ) → IsProgramAfter p first v
    → Each (λ (e : Entry). e.carrier ≢ c) es → schedule_from (machine_from p first) v es ≡ Some w → is_idle v.schedule c ≡ true → is_idle w.schedule c ≡ true
idle_outlasts p first [] v w c a others e idle = subst (λ (y : Scheduled State). is_idle y.schedule c ≡ true) (inner v w e) idle
idle_outlasts p first (y ∷ es) v w c a others e idle =
    let u = some_is (scheduled_after (machine_from p first) v y.carrier y.what) (λ u. schedule_from (machine_from p first) u es) w e in
    idle_outlasts p first es u.0 w c (histories_go_on p first v u.0 a y.carrier y.what u.1) others.1 u.2
    (ap is_vacant (mounted_left p first v u.0 a c y.carrier y.what others.0 u.1) ∙ idle)

-- ---- the frames in a hand

hand_on : (p : Setting) (v : Scheduled State) (c t n : ℕ) (frames : List Frame) (a : Phase) → (h : HasHand p v c t n frames) → IsLiveIn v.state t a
    → IsOn v c t h.thread.frames a
hand_on p v c t n frames a h live =
    let here : live.thread ≡ h.thread = same_thread (slice_get v.state.threads t) live.thread h.thread live.at h.at in
    record {
      mounted = h.mounted;
      thread = record {
        thread = h.thread;
        at = h.at;
        phase = a;
        status = sym (ap (λ (u : JavaThread). u.thread.status) here) ∙ live.status;
        runs = λ e. e;
        waits = λ ne. ne;
        has = refl;
      };
    }

on_hand : (p : Setting) (v w : Scheduled State) (c t n : ℕ) (frames : List Frame) (a : Phase) → (h : HasHand p v c t n frames) → IsLiveIn v.state t a
    → IsOn w c t h.thread.frames a → HasHand p w c t n frames
on_hand p v w c t n frames a h live x =
    record {
      mounted = x.mounted;
      thread = x.thread.thread;
      at = x.thread.at;
      running = λ some. x.thread.status ∙ ap Live (x.thread.runs (run some));
      ahead = ap (rows p.world n) x.thread.has ∙ h.ahead;
    }
  where
    run : 0 < n → a ≡ phases.Run
    run some =
        let here : live.thread ≡ h.thread = same_thread (slice_get v.state.threads t) live.thread h.thread live.at h.at in
        same_live a phases.Run (sym live.status ∙ ap (λ (u : JavaThread). u.thread.status) here ∙ h.running some)

-- ---- the hand

-- what the longer history gives follows from what the shorter one gives
record From (old : Known) (es : List Entry) (w : Scheduled State) : Type 0 where
  first : State
  before : Scheduled State
  at : scheduled old ≡ Some before
  after : schedule_from (machine_from old.setting first) before es ≡ Some w
  program : IsProgramAfter old.setting first before

same_first : (x y : State) → ◌≡◌ {A = Option State} (Some x) (Some y) → x ≡ y
same_first x y e = cc

from_old : (old new : Known) (es : List Entry) (w : Scheduled State) → IsLegal old → new.setting ≡ old.setting → new.carriers ≡ old.carriers
    → new.history ≡ old.history ++ es → scheduled new ≡ Some w → From old es w
from_old old new es w legal setting carriers history e =
    let p = old.setting in
    let given : Setting → ℕ → List Entry → Option (Scheduled State) = λ q n h. opening q >>= λ first. schedule_of (machine_from q first) n h in
    let same : given p old.carriers (old.history ++ es) ≡ Some w =
    sym (ap (λ q. given q new.carriers new.history) setting ∙ ap (λ n. given p n new.history) carriers ∙ ap (given p old.carriers) history) ∙ e in
    let opened = some_is (opening p) (λ first. schedule_of (machine_from p first) old.carriers (old.history ++ es)) w same in
    let machine = machine_from p opened.0 in
    let parts = some_is (schedule_of machine old.carriers old.history) (λ v. schedule_from machine v es) w
    (sym (entries_after machine old.carriers old.history es) ∙ opened.2) in
    record {
      first = opened.0;
      before = parts.0;
      at = bind_is (opening p) (λ first. schedule_of (machine_from p first) old.carriers old.history) opened.0 (Some parts.0) opened.1 parts.1;
      after = parts.2;
      program = record {
        begins = opened.1;
        plain = legal.accepted.unpinned;
        carriers = old.carriers;
        some = legal.some;
        history = old.history;
        runs = parts.1;
      };
    }

no_phase : (m : Known) (t : ℕ) (v : Scheduled State) → IsLiveIn v.state t phases.Run → IsInOtherPhase v.state t → ⊥
no_phase m t v run other =
    let here : run.thread ≡ other.live.thread = same_thread (slice_get v.state.threads t) run.thread other.live.thread run.at other.live.at in
    other.other (same_live other.phase phases.Run (sym other.live.status ∙ sym (ap (λ (u : JavaThread). u.thread.status) here) ∙ run.status))

not_ended : {A : Type 0} (o : Option A) → o ≡ None → is_some o ≡ false
not_ended None e = refl
not_ended (Some x) e = absurd cc

-- what a carrier has, in an older machine and in a newer one
record Outlasts (old new : Known) (c : ℕ) : Type 0 where
  setting : new.setting ≡ old.setting
  carriers : new.carriers ≡ old.carriers
  held : (t n : ℕ) (frames : List Frame) → Holds old c t n frames → Lives old t → Holds new c t n frames
  lived : (t n : ℕ) (frames : List Frame) → Holds old c t n frames → Lives old t → Lives new t
  runs_on : (t n : ℕ) (frames : List Frame) → Holds old c t n frames → HasPhase old t phases.Run → HasPhase new t phases.Run
  waits_on : (t n : ℕ) (frames : List Frame) → Holds old c t n frames → IsNotRunning old t → IsNotRunning new t
  free : (t n : ℕ) (frames : List Frame) → Holds old c t n frames → OwesNothing old t → OwesNothing new t
  leave : (t n : ℕ) (frames : List Frame) → Holds old c t n frames → HasToLeave old c t → HasToLeave new c t
  idle : Idle old c → Idle new c

run_lives : (m : Known) (t : ℕ) → HasPhase m t phases.Run → Lives m t
run_lives m t phase = λ v at. record { phase = phases.Run; live = phase v at }

wait_lives : (m : Known) (t : ℕ) → IsNotRunning m t → Lives m t
wait_lives m t not = λ v at. record { phase = (not v at).phase; live = (not v at).live }

-- so its hand fits
fits_by : (old new : Known) (c : ℕ) (h : Hand) → Outlasts old new c → machine_ending old ≡ None → Fits old c h → Fits new c h
fits_by old new c h o none fits =
    record {
      below = subst (λ n. c < n) (sym o.carriers) fits.below;
      holds = λ works. by (fits.holds works);
      rests = fits.rests;
      selected = subst (λ (q : Setting). AreSelected q.world h.cache) (sym o.setting) fits.selected;
    }
  where
    by : HoldsRightly old c h → HoldsRightly new c h
    by (nothing parts idle) = nothing parts (o.idle idle)
    by (frozen k parts holds lives leaves) =
        frozen k parts (o.held k.thread 0 k.stack.frames holds lives) (o.lived k.thread 0 k.stack.frames holds lives) (o.leave k.thread 0 k.stack.frames holds leaves)
    by (leaving k parts holds lives leaves) =
        leaving k parts (o.held k.thread 0 k.stack.frames holds lives) (o.lived k.thread 0 k.stack.frames holds lives) (o.leave k.thread 0 k.stack.frames holds leaves)
    by (running k parts holds owes phase typed) =
        running k parts (o.held k.thread 0 k.stack.frames holds (run_lives old k.thread phase)) (o.free k.thread 0 k.stack.frames holds owes)
        (o.runs_on k.thread 0 k.stack.frames holds phase) (subst (λ (q : Setting). Typed q.world k.stack.frames) (sym o.setting) typed)
    by (stopped k run parts holds owes phase has) =
        stopped k run parts (o.held k.thread run.steps k.stack.frames holds (run_lives old k.thread phase)) (o.free k.thread run.steps k.stack.frames holds owes)
        (o.runs_on k.thread run.steps k.stack.frames holds phase) (subst (λ (q : Setting). HasStopped q.world run k.stack.frames) (sym o.setting) has)
    by (waiting k parts holds owes not) =
        waiting k parts (o.held k.thread 0 k.stack.frames holds (wait_lives old k.thread not)) (o.free k.thread 0 k.stack.frames holds owes)
        (o.waits_on k.thread 0 k.stack.frames holds not)
    by (over k parts holds ended) = absurd (not_both (machine_ending old) ended none)

-- ---- entries of others

outlasts : (old new : Known) (es : List Entry) (c : ℕ) → IsLegal old → machine_ending old ≡ None → new.setting ≡ old.setting
    → new.carriers ≡ old.carriers → new.history ≡ old.history ++ es → Each (λ (e : Entry). e.carrier ≢ c) es → Outlasts old new c
outlasts old new es c legal none setting carriers history others =
    record { setting = setting; carriers = carriers; held = held; lived = lived; runs_on = runs_on; waits_on = waits_on; free = free; leave = leave; idle = idle }
  where
    p : Setting
    p = old.setting

    from : (w : Scheduled State) → scheduled new ≡ Some w → From old es w
    from w at = from_old old new es w legal setting carriers history at

    -- of a thread in this phase
    kept : (t n : ℕ) (frames : List Frame) (w : Scheduled State) (at : scheduled new ≡ Some w) (a : Phase) → HasHand p (from w at).before c t n frames
        → IsLiveIn (from w at).before.state t a → (y : HasHand p (from w at).before c t n frames) × IsOn w c t y.thread.frames a
    kept t n frames w at a y live =
        let f = from w at in
        (y, on_outlasts p f.first es f.before w c t y.thread.frames a f.program others f.after (hand_on p f.before c t n frames a y live))

    held : (t n : ℕ) (frames : List Frame) → Holds old c t n frames → Lives old t → Holds new c t n frames
    held t n frames holds lives = λ w at.
        let f = from w at in
        let live = lives f.before f.at in
        let x = kept t n frames w at live.phase (holds f.before f.at) live.live in
        subst (λ (q : Setting). HasHand q w c t n frames) (sym setting) (on_hand p f.before w c t n frames live.phase x.0 live.live x.1)

    lived : (t n : ℕ) (frames : List Frame) → Holds old c t n frames → Lives old t → Lives new t
    lived t n frames holds lives = λ w at.
        let f = from w at in
        let live = lives f.before f.at in
        let x = (kept t n frames w at live.phase (holds f.before f.at) live.live).1.thread in
        record { phase = x.phase; live = record { thread = x.thread; at = x.at; status = x.status } }

    runs_on : (t n : ℕ) (frames : List Frame) → Holds old c t n frames → HasPhase old t phases.Run → HasPhase new t phases.Run
    runs_on t n frames holds phase = λ w at.
        let f = from w at in
        let live = phase f.before f.at in
        let x = (kept t n frames w at phases.Run (holds f.before f.at) live).1.thread in
        record { thread = x.thread; at = x.at; status = x.status ∙ ap Live (x.runs refl) }

    waits_on : (t n : ℕ) (frames : List Frame) → Holds old c t n frames → IsNotRunning old t → IsNotRunning new t
    waits_on t n frames holds not = λ w at.
        let f = from w at in
        let other = not f.before f.at in
        let x = (kept t n frames w at other.phase (holds f.before f.at) other.live).1.thread in
        record { phase = x.phase; live = record { thread = x.thread; at = x.at; status = x.status }; other = x.waits other.other }

    free : (t n : ℕ) (frames : List Frame) → Holds old c t n frames → OwesNothing old t → OwesNothing new t
    free t n frames holds owes = λ w at.
        let f = from w at in
        owed_outlasts p f.first f.before w f.program c t es others f.after (holds f.before f.at).mounted ∙ owes f.before f.at

    leave : (t n : ℕ) (frames : List Frame) → Holds old c t n frames → HasToLeave old c t → HasToLeave new c t
    leave t n frames holds leaves = λ w at goes.
        let f = from w at in
        subst (λ (q : Setting). may_unmount (look_of q.world w.state) w.schedule c t ≡ true) (sym setting)
        (unmounts_outlast p f.first f.before w f.program c t es others f.after (not_ended (ending w.state) goes) (leaves f.before f.at (going old f.before f.at none).own))

    idle : Idle old c → Idle new c
    idle was = λ w at. let f = from w at in idle_outlasts p f.first es f.before w c f.program others f.after (was f.before f.at)

pub fits_outlasts : (old new : Known) (es : List Entry) (c : ℕ) (h : Hand) → IsLegal old → machine_ending old ≡ None → new.setting ≡ old.setting
    → new.carriers ≡ old.carriers → new.history ≡ old.history ++ es → Each (λ (e : Entry). e.carrier ≢ c) es → Fits old c h → Fits new c h
fits_outlasts old new es c h legal none setting carriers history others fits =
    fits_by old new c h (outlasts old new es c legal none setting carriers history others) none fits

-- ---- time that goes on, by whomever

same_state : (a b : State) → ◌≡◌ {A = Option State} (Some a) (Some b) → a ≡ b
same_state a b e = cc

tick_outlasts : (old : Known) (k now c : ℕ) → IsLegal old → machine_ending old ≡ None → Outlasts old (with_entry old k (Clock now)) c
tick_outlasts old k now c legal none =
    record { setting = refl; carriers = refl; held = held; lived = lived; runs_on = runs_on; waits_on = waits_on; free = free; leave = leave; idle = idle }
  where
    p : Setting
    p = old.setting

    from : (w : Scheduled State) → scheduled (with_entry old k (Clock now)) ≡ Some w → LastEntry old k (Clock now) w
    from w at = last_entry old k (Clock now) w at

    tick : (w : Scheduled State) (at : scheduled (with_entry old k (Clock now)) ≡ Some w) → Ticks old.setting (from w at).before w now
    tick w at = ticked old.setting (from w at).first (from w at).before w k now (from w at).after

    kept : (t n : ℕ) (frames : List Frame) (w : Scheduled State) (at : scheduled (with_entry old k (Clock now)) ≡ Some w) (a : Phase)
        → HasHand old.setting (from w at).before c t n frames → IsLiveIn (from w at).before.state t a
        → (y : HasHand old.setting (from w at).before c t n frames) × IsOn w c t y.thread.frames a
    kept t n frames w at a y live =
        let f = from w at in
        let on = hand_on p f.before c t n frames a y live in (
          y,
          record {
            mounted = ap (λ ms. holds t (slice_get ms c)) (tick w at).mounted ∙ on.mounted;
            thread = tick_with p f.first f.before w k now t y.thread.frames a f.after on.thread;
          },
        )

    held : (t n : ℕ) (frames : List Frame) → Holds old c t n frames → Lives old t → Holds (with_entry old k (Clock now)) c t n frames
    held t n frames was lives = λ w at.
        let f = from w at in
        let live = lives f.before f.at in
        let x = kept t n frames w at live.phase (was f.before f.at) live.live in
        on_hand p f.before w c t n frames live.phase x.0 live.live x.1

    lived : (t n : ℕ) (frames : List Frame) → Holds old c t n frames → Lives old t → Lives (with_entry old k (Clock now)) t
    lived t n frames was lives = λ w at.
        let f = from w at in
        let live = lives f.before f.at in
        let x = (kept t n frames w at live.phase (was f.before f.at) live.live).1.thread in
        record { phase = x.phase; live = record { thread = x.thread; at = x.at; status = x.status } }

    runs_on : (t n : ℕ) (frames : List Frame) → Holds old c t n frames → HasPhase old t phases.Run → HasPhase (with_entry old k (Clock now)) t phases.Run
    runs_on t n frames was phase = λ w at.
        let f = from w at in
        let live = phase f.before f.at in
        let x = (kept t n frames w at phases.Run (was f.before f.at) live).1.thread in
        record { thread = x.thread; at = x.at; status = x.status ∙ ap Live (x.runs refl) }

    waits_on : (t n : ℕ) (frames : List Frame) → Holds old c t n frames → IsNotRunning old t → IsNotRunning (with_entry old k (Clock now)) t
    waits_on t n frames was other = λ w at.
        let f = from w at in
        let off = other f.before f.at in
        let x = (kept t n frames w at off.phase (was f.before f.at) off.live).1.thread in
        record { phase = x.phase; live = record { thread = x.thread; at = x.at; status = x.status }; other = x.waits off.other }

    free : (t n : ℕ) (frames : List Frame) → Holds old c t n frames → OwesNothing old t → OwesNothing (with_entry old k (Clock now)) t
    free t n frames was owes = λ w at. let f = from w at in ap (λ o. o t) (tick w at).owes ∙ owes f.before f.at

    leave : (t n : ℕ) (frames : List Frame) → Holds old c t n frames → HasToLeave old c t → HasToLeave (with_entry old k (Clock now)) c t
    leave t n frames was leaves = λ w at goes.
        let f = from w at in
        let same = same_state f.first legal.first (sym f.begins ∙ legal.begins) in
        let ticks = subst (λ r. scheduled_after (machine_from p r) f.before k (Clock now) ≡ Some w) same f.after in
        tick_allows p legal.first f.before w k now c t (is_program_after old f.before legal f.at) ticks (not_ended (ending w.state) goes)
        (leaves f.before f.at (going old f.before f.at none).own)

    idle : Idle old c → Idle (with_entry old k (Clock now)) c
    idle was = λ w at. let f = from w at in ap (λ ms. is_vacant (slice_get ms c)) (tick w at).mounted ∙ was f.before f.at

pub fits_ticked : (old : Known) (k now c : ℕ) (h : Hand) → IsLegal old → machine_ending old ≡ None → Fits old c h → Fits (with_entry old k (Clock now)) c h
fits_ticked old k now c h legal none fits = fits_by old (with_entry old k (Clock now)) c h (tick_outlasts old k now c legal none) none fits

-- a mounted thread that may step still may
pub mounted_ticked : (old : Known) (k now c : ℕ) (h : Hand) (x : Continuation) → IsLegal old → machine_ending old ≡ None → MountedBy old c h x
    → MountedBy (with_entry old k (Clock now)) c h x
mounted_ticked old k now c h x legal none (ran run parts holds owes phase has) =
    let o = tick_outlasts old k now c legal none in
    ran run parts (o.held x.thread run.steps x.stack.frames holds (run_lives old x.thread phase)) (o.free x.thread run.steps x.stack.frames holds owes)
    (o.runs_on x.thread run.steps x.stack.frames holds phase) has
mounted_ticked old k now c h x legal none (waits parts holds owes not) =
    let o = tick_outlasts old k now c legal none in
    waits parts (o.held x.thread 0 x.stack.frames holds (wait_lives old x.thread not)) (o.free x.thread 0 x.stack.frames holds owes)
    (o.waits_on x.thread 0 x.stack.frames holds not)

-- a mounted thread that runs still runs
pub phase_ticked : (old : Known) (k now c t n : ℕ) (frames : List Frame) → IsLegal old → machine_ending old ≡ None → Holds old c t n frames → HasPhase old t phases.Run
    → HasPhase (with_entry old k (Clock now)) t phases.Run
phase_ticked old k now c t n frames legal none holds phase = (tick_outlasts old k now c legal none).runs_on t n frames holds phase
