-- Where main alone ends the program, no entry of time has a reason.
use Rattle.std.proofs.Common.{◌≡◌, ℕ, zero, suc, Bool, true, false, not, List, [], ◌∷◌, ◌++◌, Option, Some, None, refl, ap, sym, subst, ◌∙◌, ◌||◌, append_assoc}
use Rattle.std.specs.Prelude.{is_some, slice_get}
use Rattle.std.specs.Option.{option_map_or}
use Rattle.std.proofs.lemmas.Bool.{and_parts}
use Rattle.items.specs.First.{Each}
use Rattle.items.specs.Options.{◌>>=◌}
use Rattle.items.proofs.Binds.{some_is}
use Rattle.history.specs.declared.entry.Entry.{Entry}
use Rattle.history.specs.declared.entry.What.{What}
use Rattle.history.specs.declared.entry.What.TheVariants.{Mount, Unmount, Step, Clock}
use Rattle.history.specs.Java.{java}
use Rattle.vthread_state.specs.declared.phase.Phase.TheVariants.{Run}
use Rattle.vthread_state.specs.declared.thread.Status.{Status}
use Rattle.vthread_state.specs.declared.thread.Status.TheVariants.{New, Live, Done}
use Rattle.link_model.specs.World.{World}
use Rattle.state_model.specs.Frames.{Frame}
use Rattle.schedule_model.specs.Entries.{after_step, after_tick, may_step, may_tick}
use Rattle.schedule_model.specs.Run.{Scheduled, schedule_from, schedule_of, scheduled_after, with_schedule}
use Rattle.schedule_model.proofs.PrefixLaws.{histories_go_on as schedule_goes_on}
use Rattle.schedule_model.proofs.RunLaws.{under_is}
use Rattle.ref_model.specs.declared.ending.Ending.{Ending}
use Rattle.ref_model.specs.Setting.{Setting}
use Rattle.ref_model.specs.State.{JavaThread, State, frames_at, with_frames}
use Rattle.ref_model.specs.Ending.{ending}
use Rattle.ref_model.specs.Requests.{Request, reads_clock}
use Rattle.ref_model.specs.Alone.{alone, is_start, needs_others, stepped_alone}
use Rattle.ref_model.specs.Asking.{Asking}
use Rattle.ref_model.specs.Resuming.{asking_at, asking_in, next_asks}
use Rattle.ref_model.specs.Step.{step}
use Rattle.ref_model.specs.Run.{after_steps, at_time, steps}
use Rattle.ref_model.specs.Entries.{is_grouped}
use Rattle.ref_model.specs.Looks.{deadline_in, grouped_steps, look_of, machine_from, reads_clock_next, yields_after}
use Rattle.ref_model.proofs.StateLaws.{frames_ending, runs}
use Rattle.ref_model.proofs.StepLaws.{entry_is_local, local_steps}
use Rattle.schedule_soundness.specs.Started.{OnlyMain, was_started}
use Rattle.schedule_soundness.specs.AloneLaws.{is_tick, steps_in}
use Rattle.schedule_soundness.specs.ClockLaws.{HasReason, IsAwaited, NothingTicksAlone, awaited, read, reads_clock_after}
use Rattle.schedule_soundness.proofs.Steps.{LiveStep, asks_none, step_moves}
use Rattle.schedule_soundness.proofs.FrameLaws.{frames_in_time}
use Rattle.schedule_soundness.proofs.LookLaws.{spot_at}
use Rattle.schedule_soundness.proofs.Reached.{grouped_is, inner_state}
use Rattle.schedule_soundness.proofs.Openings.{opens}
use Rattle.schedule_soundness.proofs.MainAlone.{live_started, started_is_main}
use Rattle.schedule_soundness.proofs.AloneLaws.{entry_of_main, main_runs_alone, one_state}
use Rattle.schedule_soundness.proofs.AloneSteps.{alone_ahead, alone_any, each_java, next_alone, over_alone, steps_alone}

no_both : (b : Bool) → b ≡ true → b ≡ false → ⊥
no_both b i j = absurd cc

-- ---- main waits for no time

abbrev deadline_at : Option JavaThread → Option ℕ
deadline_at o = option_map_or (λ (x : JavaThread). deadline_in x.thread.status) o None

-- what needs no others doesn't read the clock
no_clock : (o : Option (Request × Asking)) → option_map_or (λ (x : Request × Asking). needs_others x.0) o false ≡ false
    → option_map_or (λ (x : Request × Asking). reads_clock x.0) o false ≡ false
no_clock None e = refl
no_clock (Some x) e = right (is_start x.0) (reads_clock x.0) e
  where
    right : (a b : Bool) → (a || b) ≡ false → b ≡ false
    right true b e = absurd cc
    right false b e = e

-- a step that doesn't read the clock leaves its thread without a deadline
step_timeless : (p : Setting) (r q : State) (t : ℕ) (pick : Option ℕ) → step p r t pick ≡ Some q → next_asks p.world r t reads_clock ≡ false
    → deadline_at (slice_get q.threads t) ≡ None
step_timeless p r q t pick e off = by (slice_get q.threads t) refl
  where
    l : LiveStep p.world t r q
    l = step_moves p r q t pick e

    by : (o : Option JavaThread) → slice_get q.threads t ≡ o → deadline_at o ≡ None
    by None is = refl
    by (Some y) is = (l.stepped.moves.own y is).timeless (asks_none p.world t r q l reads_clock off)

alone_timeless : (p : Setting) (n : ℕ) (r : State) → alone p n ≡ Some r → deadline_at (slice_get r.threads 0) ≡ None
alone_timeless p zero r e = ap (λ ts. deadline_at (slice_get ts 0)) (opens p r e).threads
alone_timeless p (suc n) r e =
    let s = some_is (alone p n) (stepped_alone p) r e in by s.0 (alone_timeless p n s.0 s.1) s.2 (ending s.0) refl
  where
    by : (s : State) → deadline_at (slice_get s.threads 0) ≡ None → stepped_alone p s ≡ Some r → (o : Option Ending) → ending s ≡ o
        → deadline_at (slice_get r.threads 0) ≡ None
    by s before made None goes =
        let one = steps_alone p s r goes made in step_timeless p s r 0 None one.made (no_clock (asking_at p.world s 0) one.asks)
    by s before made (Some told) over =
        let same = one_state (stepped_alone p s) s r (over_alone p s told over) made in
        ap (λ (x : State). deadline_at (slice_get x.threads 0)) (sym same) ∙ before

-- who has a deadline was started
deadline_started : (o : Option JavaThread) (deadline : ℕ) → deadline_at o ≡ Some deadline → was_started (spot_at o) ≡ true
deadline_started None deadline e = absurd cc
deadline_started (Some x) deadline e = by x.thread.status refl
  where
    by : (status : Status) → x.thread.status ≡ status → was_started (spot_at (Some x)) ≡ true
    by New is = let z : None ≡ Some deadline = sym (ap deadline_in is) ∙ e in absurd cc
    by (Live phase) is = live_started (Some x) x phase refl is
    by Done is = let z : None ≡ Some deadline = sym (ap deadline_in is) ∙ e in absurd cc

nobody_awaits : (p : Setting) (n : ℕ) (r : State) (now : ℕ) → alone p n ≡ Some r → OnlyMain (look_of p.world r) → IsAwaited p.world r now → ⊥
nobody_awaits p n r now here only a =
    let main = started_is_main p.world r a.thread only (deadline_started (slice_get r.threads a.thread) a.due.deadline a.due.has) in
    let z : None ≡ Some a.due.deadline =
    sym (alone_timeless p n r here) ∙ ap (λ t. deadline_at (slice_get r.threads t)) (sym main) ∙ a.due.has in absurd cc

-- ---- main reads no clock

asks_some : (test : Request → Bool) (o : Option (Request × Asking)) → option_map_or (λ (x : Request × Asking). test x.0) o false ≡ true
    → (x : Request × Asking) × (o ≡ Some x)
asks_some test None e = absurd cc
asks_some test (Some x) e = (x, refl)

-- who asks something next runs
pub asks_runs : (w : World) (r : State) (t : ℕ) (test : Request → Bool) → next_asks w r t test ≡ true
    → (frames : List Frame) × (frames_at r t ≡ Some frames)
asks_runs w r t test asks =
    let x = asks_some test (asking_at w r t) asks in
    let at = some_is (frames_at r t) (asking_in w r.memory) x.0 x.1 in (at.0, at.1)

-- While main alone was started, who asks something after so many of its steps is main.
asker_is_main : (p : Setting) (n : ℕ) (r q : State) (t : ℕ) (test : Request → Bool) → OnlyMain (look_of p.world r) → steps p n r t ≡ Some q
    → next_asks p.world q t test ≡ true → t ≡ 0
asker_is_main p zero r q t test only e asks =
    let frames = asks_runs p.world q t test asks in
    let h = runs q t frames.0 frames.1 in
    started_is_main p.world q t (subst (λ s. OnlyMain (look_of p.world s)) (inner_state r q e) only)
    (live_started (slice_get q.threads t) h.thread Run h.at h.running)
asker_is_main p (suc n) r q t test only e asks = entry_of_main p n r q t None only e

-- Before the last step of an entry that comes after a tick, the program goes on where it did before the tick.
goes_before_last : (p : Setting) (r s q x : State) (t n now : ℕ) → ending r ≡ None → at_time r now ≡ Some s
    → grouped_steps p s t (suc n) None ≡ Some q → steps p n r t ≡ Some x → ending x ≡ None
goes_before_last p r s q x t zero now goes time entry e = ap ending (sym (inner_state r x e)) ∙ goes
goes_before_last p r s q x t (suc n) now goes time entry e =
    let g = grouped_is (is_grouped p.world s t (suc (suc n))) (after_steps p s t (suc (suc n)) None) q entry in
    let l = entry_is_local p s q t n None g.0 g.1 in
    let at : frames_at r t ≡ Some l.before = sym (frames_in_time r s now t time) ∙ l.first in
    let h = runs r t l.before at in
    let same = one_state (steps p (suc n) r t) (with_frames r t l.after) x (local_steps p r t (suc n) l.before l.after at goes l.local) e in
    ap ending (sym same) ∙ frames_ending r t h.thread l.after h.at ∙ goes

-- a tick of a legal history
record Ticks (r q : State) (now : ℕ) : Type 0 where
  pub goes : ending r ≡ None
  pub time : at_time r now ≡ Some q

-- the same, with steps of a thread next
record TicksThenSteps (p : Setting) (r : State) (now t n : ℕ) : Type 0 where
  pub after : State
  pub tick : Ticks r after now
  pub last : State
  pub entry : grouped_steps p after t n None ≡ Some last

none_reads : (p : Setting) (k : ℕ) (r : State) (now t n : ℕ) → ((j : ℕ) → (s : State) × (alone p j ≡ Some s)) → alone p k ≡ Some r
    → OnlyMain (look_of p.world r) → TicksThenSteps p r now t n → reads_clock_after p r t n ≡ true → ⊥
none_reads p k r now t zero any here only legal reads = absurd cc
none_reads p k r now t (suc n) any here only legal reads = by (steps p n r t) refl reads
  where
    by : (o : Option State) → steps p n r t ≡ o → option_map_or (λ q. reads_clock_next p.world q t) o false ≡ true → ⊥
    by None e reads = absurd cc
    by (Some q) e reads =
        let main = asker_is_main p n r q t reads_clock only e reads in
        let goes = goes_before_last p r legal.after legal.last q t n now legal.tick.goes legal.tick.time legal.entry e in
        let ahead = alone_ahead p k n r q any here (ap (steps p n r) (sym main) ∙ e) in
        let next = next_alone p ahead.0 q any ahead.1 goes in
        no_both (next_asks p.world q 0 reads_clock) (ap (λ u. next_asks p.world q u reads_clock) (sym main) ∙ reads)
        (no_clock (asking_at p.world q 0) next.2.asks)

-- ---- histories

none_is : {A : Type 0} (o : Option A) → not (is_some o) ≡ true → o ≡ None
none_is None e = refl
none_is (Some x) e = absurd cc

ticks : (p : Setting) (first : State) (v w : Scheduled State) (c now : ℕ) → scheduled_after (machine_from p first) v c (Clock now) ≡ Some w
    → Ticks v.state w.state now
ticks p first v w c now e =
    let l = look_of p.world in
    let given = under_is (may_tick (l v.state) v.schedule c) _ w e in
    let q = some_is (at_time v.state now) (λ q. Some (with_schedule q (after_tick (l v.state) (l q) v.schedule c))) w given.1 in
    record {
      goes = none_is (ending v.state) (and_parts (not (is_some (ending v.state))) _ given.0).0;
      time = q.1 ∙ ap (λ o. o >>= λ x. Some x.state) q.2;
    }

step_made : (p : Setting) (first : State) (v w : Scheduled State) (c t n : ℕ) → scheduled_after (machine_from p first) v c (Step t n None) ≡ Some w
    → (q : State) × (grouped_steps p v.state t n None ≡ Some q)
step_made p first v w c t n e =
    let l = look_of p.world in
    let given = under_is (may_step (l v.state) v.schedule c t None) _ w e in
    let q = some_is (grouped_steps p v.state t n None)
    (λ q. Some (with_schedule q (after_step (l v.state) (l q) v.schedule c t (yields_after p v.state t n)))) w given.1 in (q.0, q.1)

-- where main alone comes, time has no reason to go on
no_reason : (p : Setting) (first : State) (k : ℕ) (v w : Scheduled State) (c now : ℕ) (later : List Entry)
    → ((j : ℕ) → (s : State) × (alone p j ≡ Some s)) → alone p k ≡ Some v.state → OnlyMain (look_of p.world v.state)
    → schedule_from (machine_from p first) v (record { carrier = c; what = Clock now } ∷ later) ≡ Some w → HasReason p v.state c now later → ⊥
no_reason p first k v w c now later any here only e (awaited a) = nobody_awaits p k v.state now here only a
no_reason p first k v w c now later any here only e (read t n rest is reads) =
    let m = machine_from p first in
    let u = some_is (scheduled_after m v c (Clock now)) (λ u. schedule_from m u later) w e in
    let next = some_is (scheduled_after m u.0 c (Step t n None)) (λ x. schedule_from m x rest) w (ap (schedule_from m u.0) (sym is) ∙ u.2) in
    let made = step_made p first u.0 next.0 c t n next.1 in
    none_reads p k v.state now t n any here only
    (record { after = u.0.state; tick = ticks p first v u.0 c now u.1; last = made.0; entry = made.1 }) reads

each_more : (es : List Entry) (a : Entry) → Each (λ (e : Entry). is_tick e.what ≡ false) es → is_tick a.what ≡ false
    → Each (λ (e : Entry). is_tick e.what ≡ false) (es ++ a ∷ [])
each_more [] a each here = (here, tt)
each_more (e ∷ es) a each here = (each.0, each_more es a each.1 here)

pub nothing_ticks_alone : NothingTicksAlone
nothing_ticks_alone p first carriers history v n q told begins plain e reasons made over = none [] history refl tt
  where
    any : (j : ℕ) → (s : State) × (alone p j ≡ Some s)
    any = alone_any p n q told made over

    -- the entry behind entries that are no ticks is none
    next : (front later : List Entry) (a : Entry) (what : What) → a.what ≡ what → history ≡ front ++ a ∷ later
        → Each (λ (x : Entry). is_tick x.what ≡ false) front → is_tick what ≡ false
    next front later a (Mount t) is whole each = refl
    next front later a (Unmount t) is whole each = refl
    next front later a (Step t k pick) is whole each = refl
    next front later a (Clock now) is whole each =
        let m = machine_from p first in
        let tick : Entry = record { carrier = a.carrier; what = Clock now } in
        let same : a ≡ tick = ap (λ what. record a { what = what }) is in
        let split : history ≡ front ++ tick ∷ later = whole ∙ ap (λ x. front ++ x ∷ later) same in
        let u = some_is (schedule_of m carriers front) (λ u. schedule_from m u (tick ∷ later)) v
        (sym (schedule_goes_on m carriers front (tick ∷ later)) ∙ ap (schedule_of m carriers) (sym split) ∙ e) in
        let k = steps_in (java front) in
        let there = any k in
        let alike = main_runs_alone p first carriers front u.0 there.0 begins u.1 (each_java front each) there.1 in
        absurd (no_reason p first k u.0 v a.carrier now later any (there.1 ∙ ap Some alike.0) alike.1 u.2
        (reasons front later a.carrier now u.0 split u.1))

    none : (front later : List Entry) → history ≡ front ++ later → Each (λ (x : Entry). is_tick x.what ≡ false) front
        → Each (λ (x : Entry). is_tick x.what ≡ false) later
    none front [] whole each = tt
    none front (a ∷ later) whole each =
        let here = next front later a a.what refl whole each in
        (here, none (front ++ a ∷ []) later (whole ∙ sym (append_assoc front (a ∷ []) later)) (each_more front a each here))
