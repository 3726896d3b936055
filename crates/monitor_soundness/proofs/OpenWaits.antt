-- A thread that waits on a monitor has a deadline that is still to come, or none, while there is a later time.
use Rattle.std.proofs.Common.{◌≡◌, ◌≢◌, ◌⊎◌, inl, inr, eqb, ◌<◌, ◌≤◌, ◌+◌, ◌*◌, ◌/◌, ℕ, zero, suc, ℤ, pos, Bool, true, false, List, [], ◌∷◌, length, map, Option, Some, None, refl, ap, sym, subst, ◌∙◌, arith, cond}
use Rattle.std.specs.Prelude.{if◌then◌else◌, nat_le, slice_get, unsigned_abs, ◌==◌}
use Rattle.std.specs.Option.{option_map_or}
use Rattle.std.proofs.lemmas.Bool.{cases_Bool, cases_lt, leb-false}
use Rattle.std.proofs.lemmas.Bool.Decides.{eqb_tells}
use Rattle.items.specs.Options.{◌>>=◌}
use Rattle.items.proofs.Binds.{some_is}
use Rattle.std.specs.Int.{w64, int_wrap}
use Rattle.instruction_rows.specs.declared.value.Value.TheVariants as values
use Rattle.instruction_rows.specs.Rows.{Row, returns}
use Rattle.instruction_rows.specs.Table.{row as row_of}
use Rattle.vthread_state.specs.declared.phase.Phase.{Phase}
use Rattle.vthread_state.specs.declared.phase.Phase.TheVariants.{Run, Entering, Waiting, Reenter, Parked, Asleep, Joining}
use Rattle.vthread_state.specs.declared.phase.Wake.TheVariants.{TimedOut}
use Rattle.vthread_state.specs.declared.thread.Status.{Status}
use Rattle.vthread_state.specs.declared.thread.Status.TheVariants.{New, Live, Done}
use Rattle.link_model.specs.World.{World}
use Rattle.verify_types.specs.Environment.{Instruction}
use Rattle.state_model.specs.Frames.{Frame}
use Rattle.schedule_model.specs.Changes.{IsReached}
use Rattle.ref_model.specs.declared.exception.Exception.TheVariants.{IllegalArgumentException, IllegalMonitorStateException}
use Rattle.ref_model.specs.Setting.{Setting}
use Rattle.ref_model.specs.State.{JavaThread, State, frames_at, has_permit, is_interrupted, with_frames, with_owner, with_permit, with_status}
use Rattle.ref_model.specs.Fetch.{fetched}
use Rattle.ref_model.specs.LocalRows.{row}
use Rattle.ref_model.specs.Monitors.{owns, times_entered}
use Rattle.ref_model.specs.Effects.{Effect, done, invokes, throws, throws_object, asks}
use Rattle.ref_model.specs.Requests.{Request, joins, sleeps, parks, tells_nanos, tells_millis, waits_on, notifies, reads_clock}
use Rattle.ref_model.specs.Asking.{Asking, goes, thrown_interrupted, waits}
use Rattle.ref_model.specs.Requesting.{asked, asked_with, joined, parked, slept, unless_interrupted, wait_begun}
use Rattle.ref_model.specs.Resuming.{asking_at, asking_by, asking_in, next_asks}
use Rattle.ref_model.specs.RowEffects.{row_effect}
use Rattle.ref_model.specs.Step.{after_effect, enabled, event_step, picking_step, row_event, row_or_event, status_step, step, thread_step}
use Rattle.ref_model.specs.Throwing.{raised}
use Rattle.ref_model.specs.Waiting.{at_time, deadline_after, deadline_of, is_negative, is_over, is_reached, latest, millis_after, nanos_in_milli, park_deadline, status_at_time, thread_at_time}
use Rattle.ref_model.specs.Opening.{opening_thread}
use Rattle.ref_model.specs.Looks.{deadline_in, machine_from}
use Rattle.ref_model.proofs.StateLaws.{runs}
use Rattle.schedule_soundness.specs.Moves.{Moved, still, told, woken, started, made}
use Rattle.schedule_soundness.proofs.ThreadLists.{changed_is, map_none, map_there, not_none, same_some}
use Rattle.schedule_soundness.proofs.OwnSteps.{OwnStep, Settled, going, ended, back_value, frames_own, goes_own, interrupted_own, known, raised_own}
use Rattle.schedule_soundness.proofs.OtherMoves.{time_is}
use Rattle.schedule_soundness.proofs.Starting.{Runs, still_going, runs_with}
use Rattle.schedule_soundness.proofs.Steps.{LiveStep, asks_none, guarded, step_moves}
use Rattle.schedule_soundness.proofs.Reached.{reached_holds}
use Rattle.schedule_soundness.proofs.Openings.{Opens, opens}
use Rattle.schedule_soundness.proofs.TypedHistories.{is_reached as is_reached_by}
use Rattle.monitor_soundness.specs.TickLaws.{WaitsAreOpen}

-- a deadline is still to come, or no time is later
abbrev IsOpen : ℕ → ℕ → Type 0
IsOpen now deadline = (now < deadline) ⊎ (latest ≤ now)

-- so are those of threads that wait on monitors
abbrev AreOpen : State → Type 0
AreOpen r = (t o count deadline : ℕ) (x : JavaThread) → slice_get r.threads t ≡ Some x →
    x.thread.status ≡ Live (Waiting o count (Some deadline)) → IsOpen r.now deadline

-- either of two
either : {P : Type 0} (b : Bool) (x y : Option State) (q : State) → (x ≡ Some q → P) → (y ≡ Some q → P) → (if b then x else y) ≡ Some q → P
either true x y q first second e = first e
either false x y q first second e = second e

-- ---- a wait that begins

begins_open : (now nanos deadline : ℕ) → 0 < nanos → deadline_after now nanos ≡ deadline → IsOpen now deadline
begins_open now nanos deadline some e =
    elim (cases_Bool (nat_le (now + nanos) latest)) [
      | inl low ↦
          let is : now + nanos ≡ deadline = sym (ap (λ b. cond b (now + nanos) latest) low) ∙ e in
          inl (omega (arith, is, some))
      | inr high ↦
          let is : latest ≡ deadline = sym (ap (λ b. cond b (now + nanos) latest) high) ∙ e in
          elim (cases_lt now latest) [
            | inl before ↦ inl (subst (λ n. now < n) is before)
            | inr over ↦ inr over
          ]
    ]

some_same : (a b : ℕ) → ◌≡◌ {A = Option ℕ} (Some a) (Some b) → a ≡ b
some_same a b e = cc

deadline_open : (now deadline : ℕ) (time : Option ℤ) → deadline_of now time ≡ Some deadline → IsOpen now deadline
deadline_open now deadline None e = absurd cc
deadline_open now deadline (Some millis) e =
    elim (eqb_tells (unsigned_abs millis) 0) [
      | inl none ↦
          let z : None ≡ Some deadline = sym (ap (λ b. cond b None (Some (millis_after now millis))) none.0) ∙ e in absurd cc
      | inr some ↦
          let is : Some (millis_after now millis) ≡ Some deadline =
          sym (ap (λ b. cond b None (Some (millis_after now millis))) some.0) ∙ e in
          begins_open now (unsigned_abs millis * nanos_in_milli) deadline (omega (arith, some.1)) (some_same (millis_after now millis) deadline is)
    ]

-- ---- what a thread comes to by its own step

-- a deadline of a wait on a monitor, with which it comes out of the step, is open
abbrev OpensAt : ℕ → ℕ → State → Type 0
OpensAt now t q = (o count deadline : ℕ) (y : JavaThread) → slice_get q.threads t ≡ Some y →
    y.thread.status ≡ Live (Waiting o count (Some deadline)) → IsOpen now deadline

no_deadline : (y : JavaThread) → Settled None y → deadline_in y.thread.status ≡ None
no_deadline y (going g) = ap deadline_in g.status ∙ g.timeless refl
no_deadline y (ended e dropped) = ap deadline_in e

-- it has no deadline
timeless_open : (now t : ℕ) (r q : State) → OwnStep t r q None → OpensAt now t q
timeless_open now t r q own o count deadline y at is =
    let z : None ≡ Some deadline = sym (no_deadline y (own.own y at)) ∙ ap deadline_in is in absurd cc

-- it waits in this phase
waits_so : (r q : State) (t : ℕ) (phase : Phase) → waits r t phase ≡ Some q → (y : JavaThread) → slice_get q.threads t ≡ Some y
    → y.thread.status ≡ Live phase
waits_so r q t phase e =
    subst (λ (s : State). (y : JavaThread) → slice_get s.threads t ≡ Some y → y.thread.status ≡ Live phase) same
    (changed_is r t (λ x. record x { thread = record x.thread { status = Live phase } }) (λ y. y.thread.status ≡ Live phase) (λ x at. refl))
  where
    same : with_status r t (Live phase) ≡ q
    same = cc

same_wait : (phase : Phase) (o count deadline : ℕ) → Live phase ≡ Live (Waiting o count (Some deadline))
    → phase ≡ Waiting o count (Some deadline)
same_wait phase o count deadline e = cc

phase_open : (now t : ℕ) (r q : State) (phase : Phase) → ((o count deadline : ℕ) → phase ≡ Waiting o count (Some deadline) → IsOpen now deadline)
    → waits r t phase ≡ Some q → OpensAt now t q
phase_open now t r q phase open_phase e o count deadline y at is =
    open_phase o count deadline (same_wait phase o count deadline (sym (waits_so r q t phase e y at) ∙ is))

-- ---- the requests that read the clock

goes_open : (r q : State) (t : ℕ) (a : Asking) (now : ℕ) → Runs r t → goes r t a ≡ Some q → OpensAt now t q
goes_open r q t a now on e = timeless_open now t r q (goes_own r q t a (still_going r t on) e)

raised_open : (w : World) (r q : State) (t now : ℕ) (rest : Option State) (b : Bool) → (rest ≡ Some q → OpensAt now t q)
    → (if b then raised w r t IllegalArgumentException else rest) ≡ Some q → OpensAt now t q
raised_open w r q t now rest b rest_is e =
    either b (raised w r t IllegalArgumentException) rest q
    (λ i. timeless_open now t r q (raised_own w r q t IllegalArgumentException i)) rest_is e

heeded_open : (w : World) (r q : State) (t now : ℕ) (rest : Option State) → (rest ≡ Some q → OpensAt now t q)
    → (if is_interrupted r t then thrown_interrupted w r t else rest) ≡ Some q → OpensAt now t q
heeded_open w r q t now rest rest_is e =
    either (is_interrupted r t) (thrown_interrupted w r t) rest q (λ i. timeless_open now t r q (interrupted_own w r q t i)) rest_is e

slept_open : (r q : State) (t : ℕ) (a : Asking) (millis : ℤ) (now : ℕ) → Runs r t → slept r t a millis ≡ Some q → OpensAt now t q
slept_open r q t a millis now on e =
    either (unsigned_abs millis == 0) (goes r t a) (waits r t (Asleep (millis_after r.now millis))) q (λ i. goes_open r q t a now on i)
    (λ i. phase_open now t r q (Asleep (millis_after r.now millis)) (λ o count deadline z. absurd cc) i) e

joined_open : (w : World) (r q : State) (t : ℕ) (a : Asking) (u : ℕ) (time : Option ℤ) (status : Status) (now : ℕ) → Runs r t
    → joined w r t a u time status ≡ Some q → OpensAt now t q
joined_open w r q t a u time (Live phase) now on e =
    heeded_open w r q t now (waits r t (Joining u (deadline_of r.now time)))
    (λ i. phase_open now t r q (Joining u (deadline_of r.now time)) (λ o count deadline z. absurd cc) i) e
joined_open w r q t a u time New now on e = goes_open r q t a now on e
joined_open w r q t a u time Done now on e = goes_open r q t a now on e

parked_open : (r q : State) (t : ℕ) (a : Asking) (time : Option ℤ) (now : ℕ) → Runs r t → parked r t a time ≡ Some q → OpensAt now t q
parked_open r q t a time now on e =
    let s = with_permit r t false in
    let wait = waits r t (Parked (park_deadline r.now time)) in
    let rest : Option State = if is_interrupted r t then goes r t a else wait in
    either (has_permit r t) (goes s t a) rest q
    (λ i. goes_open s q t a now (runs_with r t t (λ x. record x { permit = false }) (λ x z. z) on) i)
    (λ i. either (is_interrupted r t) (goes r t a) wait q (λ j. goes_open r q t a now on j)
    (λ j. phase_open now t r q (Parked (park_deadline r.now time)) (λ o count deadline z. absurd cc) j) i) e

-- a wait on a monitor
wait_open : (r q : State) (t o : ℕ) (time : Option ℤ) → wait_begun r t o time ≡ Some q → OpensAt r.now t q
wait_open r q t o time e =
    phase_open r.now t (with_owner r o None) q (Waiting o (times_entered (r.owners o)) (deadline_of r.now time))
    (λ n count deadline z. deadline_open r.now deadline time (inner (times_entered (r.owners o)) (deadline_of r.now time) n count deadline z)) e
  where
    inner : (k : ℕ) (d : Option ℕ) (n count deadline : ℕ) → Waiting o k d ≡ Waiting n count (Some deadline) → d ≡ Some deadline
    inner k d n count deadline z = cc

wait_asked : (w : World) (r q : State) (t o : ℕ) (time : Option ℤ)
    → (if owns r t o then unless_interrupted w r t (wait_begun r t o time) else raised w r t IllegalMonitorStateException) ≡ Some q
    → OpensAt r.now t q
wait_asked w r q t o time e =
    either (owns r t o) (unless_interrupted w r t (wait_begun r t o time)) (raised w r t IllegalMonitorStateException) q
    (λ i. heeded_open w r q t r.now (wait_begun r t o time) (λ j. wait_open r q t o time j) i)
    (λ i. timeless_open r.now t r q (raised_own w r q t IllegalMonitorStateException i)) e

asked_open : (w : World) (r q : State) (t : ℕ) (a : Asking) (request : Request) → Runs r t → reads_clock request ≡ true
    → asked w r t a request ≡ Some q → OpensAt r.now t q
asked_open w r q t a tells_nanos on reads e =
    timeless_open r.now t r q (back_value r q t a (values.Long (int_wrap w64 (pos r.now))) (still_going r t on) e)
asked_open w r q t a tells_millis on reads e =
    timeless_open r.now t r q (back_value r q t a (values.Long (pos (r.now / nanos_in_milli))) (still_going r t on) e)
asked_open w r q t a (sleeps millis) on reads e =
    raised_open w r q t r.now (unless_interrupted w r t (slept r t a millis)) (is_negative (Some millis))
    (λ i. heeded_open w r q t r.now (slept r t a millis) (λ j. slept_open r q t a millis r.now on j) i) e
asked_open w r q t a (parks time) on reads e =
    either (is_over time) (goes r t a) (parked r t a time) q (λ i. goes_open r q t a r.now on i) (λ i. parked_open r q t a time r.now on i) e
asked_open w r q t a (waits_on o time) on reads e =
    raised_open w r q t r.now
    (if owns r t o then unless_interrupted w r t (wait_begun r t o time) else raised w r t IllegalMonitorStateException) (is_negative time)
    (λ i. wait_asked w r q t o time i) e
asked_open w r q t a (joins u time) on reads e =
    raised_open w r q t r.now (slice_get r.threads u >>= λ x. joined w r t a u time x.thread.status) (is_negative time)
    (λ i. let x = some_is (slice_get r.threads u) (λ x. joined w r t a u time x.thread.status) q i in
    joined_open w r q t a u time x.0.thread.status r.now on x.2) e
asked_open w r q t a request on reads e = absurd cc

-- ---- a step that asks

-- what an instruction asks is what its step asks
asked_by : (w : World) (r q : State) (t next : ℕ) (f : Frame) (below : List Frame) (effect : Effect) (x : Request × Asking)
    → asking_by f below next effect ≡ Some x → after_effect w r t next f below effect ≡ Some q → asked w r t x.1 x.0 ≡ Some q
asked_by w r q t next f below (asks request stack) x is e =
    let same : (request, record { frame = f; below = below; next = next; stack = stack }) ≡ x = cc in
    ap (λ (y : Request × Asking). asked w r t y.1 y.0) (sym same) ∙ e
asked_by w r q t next f below (done memory stack) x is e = absurd cc
asked_by w r q t next f below (invokes g stack) x is e = absurd cc
asked_by w r q t next f below (throws y) x is e = absurd cc
asked_by w r q t next f below (throws_object o) x is e = absurd cc

event_asked : (w : World) (i : Instruction) (act : Row) (r q : State) (t : ℕ) (f : Frame) (below : List Frame) (x : Request × Asking)
    → (row_effect w i act r.memory (length (f ∷ below)) f >>= asking_by f below i.instr.next) ≡ Some x
    → row_event w i act r t f below ≡ Some q → asked w r t x.1 x.0 ≡ Some q
event_asked w i (returns kind) r q t f below x is e = absurd cc
event_asked w i act r q t f below x is e =
    let made = some_is (row_effect w i act r.memory (length (f ∷ below)) f) (after_effect w r t i.instr.next f below) q e in
    let told = some_is (row_effect w i act r.memory (length (f ∷ below)) f) (asking_by f below i.instr.next) x is in
    let same : told.0 ≡ made.0 = same_some (row_effect w i act r.memory (length (f ∷ below)) f) told.0 made.0 told.1 made.1 in
    asked_by w r q t i.instr.next f below told.0 x told.2 (ap (after_effect w r t i.instr.next f below) same ∙ made.2)

frames_asked : (w : World) (r q : State) (t : ℕ) (frames : List Frame) (x : Request × Asking) → asking_in w r.memory frames ≡ Some x
    → event_step w r t frames ≡ Some q → asked w r t x.1 x.0 ≡ Some q
frames_asked w r q t [] x is e = absurd cc
frames_asked w r q t (f ∷ below) x is e =
    let done = some_is (fetched w f) (λ i. row_event w i (row_of i.instr.op) r t f below) q e in
    let told = some_is (fetched w f)
    (λ i. row_effect w i (row_of i.instr.op) r.memory (length (f ∷ below)) f >>= asking_by f below i.instr.next) x is in
    let same : told.0 ≡ done.0 = same_some (fetched w f) told.0 done.0 told.1 done.1 in
    event_asked w told.0 (row_of told.0.instr.op) r q t f below x told.2
    (ap (λ (i : Instruction). row_event w i (row_of i.instr.op) r t f below) same ∙ done.2)

row_open : (w : World) (r q : State) (t : ℕ) (frames : List Frame) (x : Request × Asking) (m : Option (List Frame)) → Runs r t
    → asking_in w r.memory frames ≡ Some x → reads_clock x.0 ≡ true → row_or_event w r t frames m ≡ Some q → OpensAt r.now t q
row_open w r q t frames x (Some after) on is reads e =
    timeless_open r.now t r q (known t r (with_frames r t after) q e (frames_own r t after (still_going r t on)))
row_open w r q t frames x None on is reads e = asked_open w r q t x.1 x.0 on reads (frames_asked w r q t frames x is e)

-- a notify reads no clock
picked_off : (r q : State) (t : ℕ) (a : Asking) (u : ℕ) (request : Request) → reads_clock request ≡ true
    → asked_with r t a u request ≡ Some q → ⊥
picked_off r q t a u (notifies o) reads e = absurd cc
picked_off r q t a u request reads e = absurd cc

asking_open : (p : Setting) (r q : State) (t : ℕ) (pick : Option ℕ) (x : Request × Asking) → asking_at p.world r t ≡ Some x
    → reads_clock x.0 ≡ true → step p r t pick ≡ Some q → OpensAt r.now t q
asking_open p r q t (Some u) x is reads e =
    let g = guarded (enabled r t) (picking_step p.world r t u) q e in
    let y = some_is (asking_at p.world r t) (λ x. asked_with r t x.1 u x.0) q g.1 in
    let same : y.0 ≡ x = same_some (asking_at p.world r t) y.0 x y.1 is in
    absurd (picked_off r q t y.0.1 u y.0.0 (ap (λ (z : Request × Asking). reads_clock z.0) same ∙ reads) y.2)
asking_open p r q t None x is reads e =
    let g = guarded (enabled r t) (thread_step p.world r t) q e in
    let frames = some_is (frames_at r t) (asking_in p.world r.memory) x is in
    let h = runs r t frames.0 frames.1 in
    let me = some_is (slice_get r.threads t) (λ thread. status_step p.world r t thread.frames thread.thread.status) q g.1 in
    let same : h.thread ≡ me.0 = same_some (slice_get r.threads t) h.thread me.0 h.at me.1 in
    let on : Runs r t = λ y at. ap (λ (z : JavaThread). z.thread.status) (same_some (slice_get r.threads t) y h.thread at h.at) ∙ h.running in
    row_open p.world r q t frames.0 x (row p.world frames.0) on frames.2 reads
    (ap (λ fs. row_or_event p.world r t fs (row p.world fs)) (sym h.has)
    ∙ ap (status_step p.world r t h.thread.frames) (sym h.running)
    ∙ ap (λ (z : JavaThread). status_step p.world r t z.frames z.thread.status) same ∙ me.2)

-- the thread that steps
own_open : (p : Setting) (r q : State) (t : ℕ) (pick : Option ℕ) → step p r t pick ≡ Some q → OpensAt r.now t q
own_open p r q t pick e = by (asking_at p.world r t) refl
  where
    l : LiveStep p.world t r q
    l = step_moves p r q t pick e

    quiet : next_asks p.world r t reads_clock ≡ false → OpensAt r.now t q
    quiet off o count deadline y at is =
        let none = (l.stepped.moves.own y at).timeless (asks_none p.world t r q l reads_clock off) in
        let z : None ≡ Some deadline = sym none ∙ ap deadline_in is in absurd cc

    by : (m : Option (Request × Asking)) → asking_at p.world r t ≡ m → OpensAt r.now t q
    by None is = quiet (ap (λ m. option_map_or (λ (x : Request × Asking). reads_clock x.0) m false) is)
    by (Some x) is =
        elim (cases_Bool (reads_clock x.0)) [
          | inl reads ↦ asking_open p r q t pick x is reads e
          | inr off ↦ quiet (ap (λ m. option_map_or (λ (y : Request × Asking). reads_clock y.0) m false) is ∙ off)
        ]

-- ---- the other threads

moved_open : (w : World) (now : ℕ) (before after : Option JavaThread) → Moved w before after
    → ((o count deadline : ℕ) (x : JavaThread) → before ≡ Some x → x.thread.status ≡ Live (Waiting o count (Some deadline)) → IsOpen now deadline)
    → (o count deadline : ℕ) (y : JavaThread) → after ≡ Some y → y.thread.status ≡ Live (Waiting o count (Some deadline)) → IsOpen now deadline
moved_open w now before after (still same) old o count deadline y at is = old o count deadline y (sym same ∙ at) is
moved_open w now before after (told x z was here status kept permit interrupted) old o count deadline y at is =
    let same = same_some after z y here at in
    old o count deadline x was (sym status ∙ ap (λ (v : JavaThread). v.thread.status) same ∙ is)
moved_open w now before after (woken x z p n d wake was here waiting status kept) old o count deadline y at is =
    let same = same_some after z y here at in
    let bad : Live (Reenter p n wake) ≡ Live (Waiting o count (Some deadline)) =
    sym status ∙ ap (λ (v : JavaThread). v.thread.status) same ∙ is in absurd cc
moved_open w now before after (started x z was here new begun) old o count deadline y at is =
    let same = same_some after z y here at in
    by begun.phase (ap (λ (v : JavaThread). v.thread.status) same ∙ is)
  where
    by : (z.thread.status ≡ Live Run) ⊎ ((n : ℕ) × (z.thread.status ≡ Live (Entering n)))
        → z.thread.status ≡ Live (Waiting o count (Some deadline)) → IsOpen now deadline
    by (inl run) now_is = let bad : Live Run ≡ Live (Waiting o count (Some deadline)) = sym run ∙ now_is in absurd cc
    by (inr line) now_is = let bad : Live (Entering line.0) ≡ Live (Waiting o count (Some deadline)) = sym line.1 ∙ now_is in absurd cc
moved_open w now before after (made z was here new empty) old o count deadline y at is =
    let same = same_some after z y here at in
    let bad : New ≡ Live (Waiting o count (Some deadline)) = sym new ∙ ap (λ (v : JavaThread). v.thread.status) same ∙ is in absurd cc

-- ---- over a history

step_open : (p : Setting) (r q : State) (t : ℕ) (pick : Option ℕ) → AreOpen r → step p r t pick ≡ Some q → AreOpen q
step_open p r q t pick old e u o count deadline y at is =
    subst (λ n. IsOpen n deadline) (sym l.stepped.moves.now) (by (eqb_tells u t))
  where
    l : LiveStep p.world t r q
    l = step_moves p r q t pick e

    by : ((eqb u t ≡ true) × (u ≡ t)) ⊎ ((eqb u t ≡ false) × (u ≢ t)) → IsOpen r.now deadline
    by (inl me) = own_open p r q t pick e o count deadline y (ap (slice_get q.threads) (sym me.1) ∙ at) is
    by (inr other) =
        moved_open p.world r.now (slice_get r.threads u) (slice_get q.threads u) (l.stepped.moves.others u other.1)
        (λ n k d x was waiting. old u n k d x was waiting) o count deadline y at is

-- a wait that time leaves has its deadline ahead
left_open : (now : ℕ) (status : Status) (o count deadline : ℕ) → status_at_time now status ≡ Live (Waiting o count (Some deadline)) → now < deadline
left_open now New o count deadline e = absurd cc
left_open now Done o count deadline e = absurd cc
left_open now (Live (Waiting p n d)) o count deadline e = by (is_reached now d) refl e
  where
    ahead : (d : Option ℕ) → is_reached now d ≡ false → d ≡ Some deadline → now < deadline
    ahead d off same = leb-false deadline now (sym (ap (is_reached now) same) ∙ off)

    inner : Live (Waiting p n d) ≡ Live (Waiting o count (Some deadline)) → d ≡ Some deadline
    inner z = cc

    by : (b : Bool) → is_reached now d ≡ b → Live (if b then Reenter p n TimedOut else Waiting p n d) ≡ Live (Waiting o count (Some deadline)) → now < deadline
    by true reached z = absurd cc
    by false off z = ahead d off (inner z)
left_open now (Live phase) o count deadline e = absurd cc

tick_open : (r q : State) (now : ℕ) → AreOpen r → at_time r now ≡ Some q → AreOpen q
tick_open r q now old e =
    subst AreOpen (time_is r q now e).1 (λ t o count deadline y at is. inl (by t (slice_get r.threads t) refl o count deadline y at is))
  where
    by : (t : ℕ) (m : Option JavaThread) → slice_get r.threads t ≡ m → (o count deadline : ℕ) (y : JavaThread)
        → slice_get (map (thread_at_time now) r.threads) t ≡ Some y → y.thread.status ≡ Live (Waiting o count (Some deadline)) → now < deadline
    by t None was o count deadline y at is =
        absurd (not_none (slice_get (map (thread_at_time now) r.threads) t) y (map_none (thread_at_time now) r.threads t was) at)
    by t (Some x) was o count deadline y at is =
        let same = same_some (slice_get (map (thread_at_time now) r.threads) t) (thread_at_time now x) y (map_there (thread_at_time now) r.threads t x was) at in
        left_open now x.thread.status o count deadline (ap (λ (v : JavaThread). v.thread.status) same ∙ is)

opening_open : (p : Setting) (first : State) → Opens p first → AreOpen first
opening_open p first begins t o count deadline x at is = by t (ap (λ ts. slice_get ts t) (sym begins.threads) ∙ at)
  where
    by : (t : ℕ) → slice_get (opening_thread begins.frames ∷ []) t ≡ Some x → IsOpen first.now deadline
    by zero e =
        let same : opening_thread begins.frames ≡ x = cc in
        let bad : Live Run ≡ Live (Waiting o count (Some deadline)) = ap (λ (v : JavaThread). v.thread.status) same ∙ is in absurd cc
    by (suc t) e = absurd cc

pub waits_are_open : WaitsAreOpen
waits_are_open p first v a early t o count deadline x at is =
    elim (all v.state (is_reached_by p first a.carriers a.history v a.runs) t o count deadline x at is) [
      | inl coming ↦ coming
      | inr over ↦ absurd (omega (arith, early, over))
    ]
  where
    all : (r : State) → IsReached (machine_from p first) r → AreOpen r
    all =
        reached_holds p first AreOpen (step_open p) tick_open (opening_open p first (opens p first a.begins))
