-- The end of a wait: the thread runs, and finishes its instruction or throws InterruptedException.
use Rattle.std.proofs.Common.{◌≡◌, ℕ, Bool, true, false, List, Option, Some, None, refl, ap, sym, subst, ◌∙◌}
use Rattle.std.specs.Prelude.{slice_get, slice_set, if◌then◌else◌}
use Rattle.std.specs.Global.{Vec}
use Rattle.std.specs.Option.{option_map_or}
use Rattle.std.proofs.lemmas.List.{set-set}
use Rattle.items.specs.Options.{◌>>=◌}
use Rattle.items.proofs.Binds.{bind_is}
use Rattle.wakes.specs.Flags.{Flags}
use Rattle.sleep_wheel.specs.declared.sleeper.Key.{Key}
use Rattle.sleep_wheel.specs.Sleepers.{Sleepers, sleeper_at}
use Rattle.vthread_state.specs.declared.phase.Phase.{Phase}
use Rattle.vthread_state.specs.declared.phase.Phase.TheVariants.{Run, Throwing, Parked, Asleep, Joining}
use Rattle.vthread_state.specs.declared.thread.Status.{Status}
use Rattle.vthread_state.specs.declared.thread.Status.TheVariants.{Live}
use Rattle.vthread_state.specs.declared.thread.Thread.{Thread}
use Rattle.vthread_state.specs.Threads.{Threads, status_at}
use Rattle.link_model.specs.World.{World, name_number}
use Rattle.state_model.specs.Frames.{Frame}
use Rattle.continuation.specs.Continuation.{Continuation}
use Rattle.ref_model.specs.declared.exception.Exception.{Exception}
use Rattle.ref_model.specs.declared.exception.Exception.TheVariants as exceptions
use Rattle.ref_model.specs.Asking.{Asking, goes, thrown_interrupted}
use Rattle.ref_model.specs.Heap.{with_instance}
use Rattle.ref_model.specs.Members.{new_values}
use Rattle.ref_model.specs.Memory.{Memory}
use Rattle.ref_model.specs.Requests.{Request, joins, sleeps, parks, request_of}
use Rattle.ref_model.specs.Looks.{deadline_in}
use Rattle.ref_model.specs.Resuming.{asking_in, finished_asking, resumed, resumed_or_thrown}
use Rattle.ref_model.specs.State.{JavaThread, State, is_interrupted, with_memory, with_thread}
use Rattle.ref_model.specs.Step.{phase_step}
use Rattle.ref_model.specs.Throwing.{exception_name, out_of_memory, raised, throwing, throwing_new}
use Rattle.ref_model.proofs.StateLaws.{get_set}
use Rattle.schedule_soundness.specs.PutLaws.{OthersStay}
use Rattle.schedule_soundness.proofs.ThreadLists.{set_other}
use Rattle.thread_steps.specs.declared.progress.PendingRequest.{PendingRequest}
use Rattle.thread_steps.specs.Asking.{asking_of}
use Rattle.program_state.specs.declared.reply.Reply.TheVariants as replies
use Rattle.program_state.specs.declared.state.ProgramState.{ProgramState}
use Rattle.program_state.specs.Replies.{Concludes}
use Rattle.program_state.specs.Replying.{IsRaised}
use Rattle.program_state.specs.Requests.{IsPending}
use Rattle.program_state.specs.Running.{Stays}
use Rattle.program_state.specs.Settling.{IsStatusSet}
use Rattle.program_state.proofs.MonitorLaws.{monitors_kept, plain_lists}
use Rattle.program_state.specs.States.{IsInPhase, IsState, is_plain_phase, is_plain_status, is_started}
use Rattle.program_state.specs.Steps.{StepsTo}
use Rattle.program_state.specs.Timers.{IsTimerCleared}
use Rattle.program_state.specs.Deadlines.{HoldsDeadlines, deadlines_of, key_at, later_than, with_deadline}
use Rattle.program_state.specs.Waking.{IsInterruptTaken}
use Rattle.program_state.specs.Waiting.{EndsWait, IsWakeTaken, WaitEnds, finished_in, is_wait}
use Rattle.program_state.proofs.StateLaws.{interrupts_same, kept_put, others_same, others_then, own_memory, permits_same, rows_set, still_out, thread_is, thread_put}
use Rattle.program_state.proofs.FlagLaws.{interrupt_had}
use Rattle.program_state.proofs.StepLaws.{phase_in_table}

-- ---- an exception of a thread that waited is that of the thread as it runs

abbrev with_status_as : Status → JavaThread → JavaThread
with_status_as status x = record x { thread = record x.thread { status = status } }

-- two threads that differ in their status alone
abbrev pub DifferInStatus : JavaThread → JavaThread → Type 0
DifferInStatus y z = (status : Status) → with_status_as status y ≡ with_status_as status z

put_throwing : (r : State) (t : ℕ) (x y : JavaThread) (o : ℕ) → slice_get r.threads t ≡ Some x
    → throwing (record r { threads = slice_set r.threads t y }) t o ≡ record r { threads = slice_set r.threads t (with_status_as (Live (Throwing o)) y) }
put_throwing r t x y o at =
    thread_is (record r { threads = slice_set r.threads t y }) t (with_status_as (Live (Throwing o))) y (get_set r.threads t x y at)
    ∙ ap (λ ts. record r { threads = ts }) (set-set r.threads t y (with_status_as (Live (Throwing o)) y))

throwing_alike : (r : State) (t : ℕ) (x y z : JavaThread) (o : ℕ) → slice_get r.threads t ≡ Some x → DifferInStatus y z
    → throwing (record r { threads = slice_set r.threads t y }) t o ≡ throwing (record r { threads = slice_set r.threads t z }) t o
throwing_alike r t x y z o at alike =
    put_throwing r t x y o at ∙ ap (λ k. record r { threads = slice_set r.threads t k }) (alike (Live (Throwing o))) ∙ sym (put_throwing r t x z o at)

new_alike : (r : State) (t : ℕ) (x y z : JavaThread) (made : Option (Memory × ℕ)) → slice_get r.threads t ≡ Some x → DifferInStatus y z
    → throwing_new (record r { threads = slice_set r.threads t y }) t made ≡ throwing_new (record r { threads = slice_set r.threads t z }) t made
new_alike r t x y z None at alike = throwing_alike r t x y z out_of_memory at alike
new_alike r t x y z (Some made) at alike = throwing_alike (with_memory r made.0) t x y z made.1 at alike

pub raised_alike : (w : World) (r : State) (t : ℕ) (x y z : JavaThread) (e : Exception) → slice_get r.threads t ≡ Some x → DifferInStatus y z
    → raised w (record r { threads = slice_set r.threads t y }) t e ≡ raised w (record r { threads = slice_set r.threads t z }) t e
raised_alike w r t x y z e at alike = by (name_number w (exception_name e))
  where
    by : (class : Option ℕ) → (class >>= λ class. Some (throwing_new (record r { threads = slice_set r.threads t y }) t (with_instance r.memory class (new_values w class))))
        ≡ (class >>= λ class. Some (throwing_new (record r { threads = slice_set r.threads t z }) t (with_instance r.memory class (new_values w class))))
    by None = refl
    by (Some class) = ap (λ (s : State). Some s) (new_alike r t x y z (with_instance r.memory class (new_values w class)) at alike)

-- ---- the thread that waited, as it runs

abbrev pub runs_without_permit : JavaThread → JavaThread
runs_without_permit x = record x { thread = record x.thread { status = Live Run }; permit = false }

abbrev pub runs_uninterrupted : JavaThread → JavaThread
runs_uninterrupted x = record x { thread = record x.thread { status = Live Run }; interrupted = false }

put_twice : (r : State) (t : ℕ) (x y : JavaThread) (change : JavaThread → JavaThread) → slice_get r.threads t ≡ Some x
    → with_thread (record r { threads = slice_set r.threads t y }) t change ≡ record r { threads = slice_set r.threads t (change y) }
put_twice r t x y change at =
    thread_is (record r { threads = slice_set r.threads t y }) t change y (get_set r.threads t x y at) ∙ ap (λ ts. record r { threads = ts }) (set-set r.threads t y (change y))

-- the state in which it runs, and the parts of that
ended_state : (a : ProgramState) (table : Threads) (flags : Flags) (wheel : Sleepers) (keys : Vec (Option Key)) (r : State) (out : ℕ → Bool) (t : ℕ) (x y : JavaThread) → IsState a r out
    → slice_get r.threads t ≡ Some x → out t ≡ true → is_plain_status x.thread.status ≡ true → y.thread ≡ record x.thread { status = Live Run } → IsStatusSet t (Live Run) a.threads table → IsTimerCleared t a.wheel a.keys.items wheel keys.items
    → flags.permits ≡ slice_set a.wakes.permits t y.permit → flags.interrupts ≡ slice_set a.wakes.interrupts t y.interrupted
    → IsState (record a { threads = table; wakes = flags; wheel = wheel; keys = keys }) (record r { threads = slice_set r.threads t y }) out
ended_state a table flags wheel keys r out t x y is at here plain row set timer permits interrupts =
    let new : ProgramState = record a { threads = table; wakes = flags; wheel = wheel; keys = keys } in
    subst (λ q. IsState new q out) (own_memory a r out (slice_set r.threads t y) is)
    (thread_put a new r out t x y is at
    (record {
      run = is.status;
      rows = ap (λ (ts : Threads). ts.threads) set.threads ∙ rows_set a.threads r t x y (λ thread. record thread { status = Live Run }) is.rows at row;
      limit = ap (λ (ts : Threads). ts.limit) set.threads;
      most_threads = refl;
      monitors = monitors_kept a.monitors r.threads r.owners t x y is.monitors at (plain_lists x.thread.status y.thread.status plain (ap (λ (z : Thread). is_plain_status z.status) row));
      permits = permits;
      interrupts = interrupts;
      unnamed = refl;
      time = refl;
      places = timer.places;
      wheel = subst (λ (z : Thread). HoldsDeadlines (sleeper_at wheel) (key_at keys.items) (with_deadline (deadlines_of r.now r.threads) t (later_than r.now (deadline_in z.status)))) (sym row)
          (timer.holds (deadlines_of r.now r.threads) is.wheel);
    })
    (kept_put a.frozen.items r out t x y at is.kept (still_out t (out t) x y (slice_get a.frozen.items t) here (ap (λ (z : Thread). is_started z.status) row))))

-- ---- the end of a wait, by its phase

-- the steps of a thread that was parked, and of one that slept or joined another, from what they took
park_step : (w : World) (r : State) (t : ℕ) (x : JavaThread) (deadline : Option ℕ) (frames : List Frame) → slice_get r.threads t ≡ Some x
    → phase_step w r t frames (Parked deadline) ≡ finished_in w r.memory (record r { threads = slice_set r.threads t (runs_without_permit x) }) t frames
park_step w r t x deadline frames at =
    ap (λ q. resumed w q t frames) (thread_is r t (λ thread. record thread { permit = false }) x at)
    ∙ ap (λ q. finished_in w r.memory q t frames) (put_twice r t x (record x { permit = false }) (with_status_as (Live Run)) at)

thrown_step : (w : World) (r : State) (t : ℕ) (x : JavaThread) → slice_get r.threads t ≡ Some x
    → thrown_interrupted w r t ≡ raised w (record r { threads = slice_set r.threads t (runs_uninterrupted x) }) t exceptions.InterruptedException
thrown_step w r t x at =
    ap (λ q. raised w q t exceptions.InterruptedException) (thread_is r t (λ thread. record thread { interrupted = false }) x at)
    ∙ raised_alike w r t x (record x { interrupted = false }) (runs_uninterrupted x) exceptions.InterruptedException at (λ status. refl)

resumed_step : (w : World) (r : State) (t : ℕ) (x : JavaThread) (frames : List Frame) → slice_get r.threads t ≡ Some x → x.interrupted ≡ false
    → resumed w r t frames ≡ finished_in w r.memory (record r { threads = slice_set r.threads t (runs_uninterrupted x) }) t frames
resumed_step w r t x frames at calm =
    ap (λ q. finished_in w r.memory q t frames) (thread_is r t (with_status_as (Live Run)) x at
    ∙ ap (λ b. record r { threads = slice_set r.threads t (record x { thread = record x.thread { status = Live Run }; interrupted = b }) }) calm)

told_step : (w : World) (r : State) (t : ℕ) (x : JavaThread) (frames : List Frame) (had : Bool) → slice_get r.threads t ≡ Some x → is_interrupted r t ≡ had
    → (if is_interrupted r t then thrown_interrupted w r t else resumed w r t frames)
    ≡ (if had then raised w (record r { threads = slice_set r.threads t (runs_uninterrupted x) }) t exceptions.InterruptedException
    else finished_in w r.memory (record r { threads = slice_set r.threads t (runs_uninterrupted x) }) t frames)
told_step w r t x frames had at told = ap (λ b. if b then thrown_interrupted w r t else resumed w r t frames) told ∙ by had told
  where
    next : State
    next = record r { threads = slice_set r.threads t (runs_uninterrupted x) }

    by : (had : Bool) → is_interrupted r t ≡ had
        → (if had then thrown_interrupted w r t else resumed w r t frames) ≡ (if had then raised w next t exceptions.InterruptedException else finished_in w r.memory next t frames)
    by true e = thrown_step w r t x at
    by false e = resumed_step w r t x frames at (sym (ap (λ o. option_map_or (λ (z : JavaThread). z.interrupted) o false) at) ∙ e)

-- of a wait that an interrupt may end
interrupt_ended : (a : ProgramState) (table : Threads) (flags : Flags) (wheel : Sleepers) (keys : Vec (Option Key)) (t : ℕ) (phase : Phase) (interrupted : Bool) → IsStatusSet t (Live Run) a.threads table
    → IsTimerCleared t a.wheel a.keys.items wheel keys.items → IsInterruptTaken t interrupted a.wakes flags
    → (r : State) (out : ℕ → Bool) (frames : List Frame) → IsState a r out → out t ≡ true → IsInPhase r t phase frames → is_plain_phase phase ≡ true
    → ((w : World) → phase_step w r t frames phase ≡ resumed_or_thrown w r t frames)
    → WaitEnds t phase frames r out interrupted (record a { threads = table; wakes = flags; wheel = wheel; keys = keys })
interrupt_ended a table flags wheel keys t phase interrupted set timer taken r out frames is here at plain steps =
    let x : JavaThread = at.thread in
    let y : JavaThread = runs_uninterrupted x in
    let next : State = record r { threads = slice_set r.threads t y } in
    record {
      next = next;
      is = ended_state a table flags wheel keys r out t x y is at.at here (ap is_plain_status at.status ∙ plain) refl set timer
          (ap (λ (fs : Flags). fs.permits) taken.after ∙ permits_same a r out t x x.permit is at.at refl) (ap (λ (fs : Flags). fs.interrupts) taken.after);
      runs = record { thread = y; at = get_set r.threads t x y at.at; status = refl; has = at.has };
      others = others_same t r next (λ u ne. set_other r.threads t u y ne) refl refl;
      step = λ w. steps w ∙ told_step w r t x frames interrupted at.at (interrupt_had a r out t interrupted flags is taken);
    }

-- the parts after it, and the step, in each state
ended_so : (a : ProgramState) (table : Threads) (flags : Flags) (wheel : Sleepers) (keys : Vec (Option Key)) (t : ℕ) (phase : Phase) (interrupted : Bool) → IsStatusSet t (Live Run) a.threads table
    → IsTimerCleared t a.wheel a.keys.items wheel keys.items → IsWakeTaken t phase interrupted a.wakes flags
    → (r : State) (out : ℕ → Bool) (frames : List Frame) → IsState a r out → out t ≡ true → IsInPhase r t phase frames
    → WaitEnds t phase frames r out interrupted (record a { threads = table; wakes = flags; wheel = wheel; keys = keys })
ended_so a table flags wheel keys t (Parked deadline) interrupted set timer taken r out frames is here at =
    let x : JavaThread = at.thread in
    let y : JavaThread = runs_without_permit x in
    let next : State = record r { threads = slice_set r.threads t y } in
    record {
      next = next;
      is = ended_state a table flags wheel keys r out t x y is at.at here (ap is_plain_status at.status) refl set timer (ap (λ (fs : Flags). fs.permits) (taken.2).after)
          (ap (λ (fs : Flags). fs.interrupts) (taken.2).after ∙ interrupts_same a r out t x x.interrupted is at.at refl);
      runs = record { thread = y; at = get_set r.threads t x y at.at; status = refl; has = at.has };
      others = others_same t r next (λ u ne. set_other r.threads t u y ne) refl refl;
      step = λ w. park_step w r t x deadline frames at.at
          ∙ ap (λ b. if b then raised w next t exceptions.InterruptedException else finished_in w r.memory next t frames) (sym taken.0);
    }
ended_so a table flags wheel keys t (Asleep deadline) interrupted set timer taken r out frames is here at =
    interrupt_ended a table flags wheel keys t (Asleep deadline) interrupted set timer taken r out frames is here at refl (λ w. refl)
ended_so a table flags wheel keys t (Joining target deadline) interrupted set timer taken r out frames is here at =
    interrupt_ended a table flags wheel keys t (Joining target deadline) interrupted set timer taken r out frames is here at refl (λ w. refl)
ended_so a table flags wheel keys t phase interrupted set timer taken r out frames is here at = absurd taken

pub wait_ended : (a : ProgramState) (table : Threads) (flags : Flags) (wheel : Sleepers) (keys : Vec (Option Key)) (t : ℕ) (phase : Phase) (interrupted : Bool) → status_at a.threads t ≡ Some (Live phase)
    → IsStatusSet t (Live Run) a.threads table → IsTimerCleared t a.wheel a.keys.items wheel keys.items → IsWakeTaken t phase interrupted a.wakes flags
    → EndsWait t a (record a { threads = table; wakes = flags; wheel = wheel; keys = keys }) interrupted
wait_ended a table flags wheel keys t phase interrupted told set timer taken r out own frames is here at =
    let both : Some (Live phase) ≡ Some (Live own) = sym told ∙ phase_in_table a r out t own frames is at in
    let same : phase ≡ own = cc in
    ended_so a table flags wheel keys t own interrupted set timer (subst (λ p. IsWakeTaken t p interrupted a.wakes flags) same taken) r out frames is here at

-- ---- the step

finishes : (r : State) (t : ℕ) (k : Asking) (q : Request) → is_wait q ≡ true → finished_asking r t k q ≡ goes r t k
finishes r t k (joins u time) e = refl
finishes r t k (sleeps millis) e = refl
finishes r t k (parks time) e = refl
finishes r t k q e = absurd cc

-- its instruction is finished
wait_finished : (w : World) (q : PendingRequest) (t : ℕ) (a mid new : ProgramState) (before after : List Frame) → IsPending w q a.memory before → is_wait (request_of q.request) ≡ true
    → EndsWait t a mid false → Concludes w q t replies.Goes mid before new after → (phase : Phase) → StepsTo w (OthersStay t) phase t a before new after
wait_finished w q t a mid new before after p waits ends concludes phase r out is here at =
    let e = ends r out phase before is here at in
    let k : Asking = asking_of q p.frame p.below in
    let l = concludes e.next out p.frame p.below e.is here e.runs p.top in
    let asked_in : asking_in w r.memory before ≡ Some (request_of q.request, k) = ap (λ m. asking_in w m before) (sym is.memory) ∙ p.asks.asking in
    record {
      next = l.next;
      makes = e.step w
          ∙ bind_is (asking_in w r.memory before) (λ x. finished_asking e.next t x.1 x.0) (request_of q.request, k) (Some l.next) asked_in
          (finishes e.next t k (request_of q.request) waits ∙ l.makes);
      is = l.is;
      has = l.has;
      others = others_then t r e.next l.next e.others l.others;
    }

-- it throws
wait_thrown : (w : World) (t : ℕ) (a mid new : ProgramState) (before : List Frame) → EndsWait t a mid true → IsRaised w exceptions.InterruptedException t mid new
    → (phase : Phase) → StepsTo w (OthersStay t) phase t a before new before
wait_thrown w t a mid new before ends raises phase r out is here at =
    let e = ends r out phase before is here at in
    let l = raises e.next out before e.is here e.runs in
    record {
      next = l.next;
      makes = e.step w ∙ l.makes;
      is = l.is;
      has = l.has;
      others = others_then t r e.next l.next e.others l.others;
    }

-- The parts were looked at, and stayed.
pub wait_over : (w : World) (q : PendingRequest) (t : ℕ) (a b mid new : ProgramState) (m n : Continuation) (after : List Frame) → Stays a m b n → t ≡ n.thread
    → IsPending w q a.memory m.stack.frames → is_wait (request_of q.request) ≡ true → EndsWait t b mid false → Concludes w q n.thread replies.Goes mid n.stack.frames new after
    → (phase : Phase) → StepsTo w (OthersStay m.thread) phase m.thread a m.stack.frames new after
wait_over w q t a b mid new m n after stays own p waits ends concludes =
    wait_finished w q m.thread a mid new m.stack.frames after p waits
    (subst (λ (x : ProgramState). EndsWait m.thread x mid false) stays.state (subst (λ k. EndsWait k b mid false) (own ∙ ap (λ (x : Continuation). x.thread) stays.mounted) ends))
    (subst (λ (x : Continuation). Concludes w q x.thread replies.Goes mid x.stack.frames new after) stays.mounted concludes)

pub wait_interrupted : (w : World) (t : ℕ) (a b mid new : ProgramState) (m n : Continuation) → Stays a m b n → t ≡ n.thread → EndsWait t b mid true
    → IsRaised w exceptions.InterruptedException t mid new → (phase : Phase) → StepsTo w (OthersStay m.thread) phase m.thread a m.stack.frames new n.stack.frames
wait_interrupted w t a b mid new m n stays own ends raises =
    subst (λ (x : Continuation). (phase : Phase) → StepsTo w (OthersStay m.thread) phase m.thread a m.stack.frames new x.stack.frames) (sym stays.mounted)
    (wait_thrown w m.thread a mid new m.stack.frames
    (subst (λ (x : ProgramState). EndsWait m.thread x mid true) stays.state (subst (λ k. EndsWait k b mid true) same ends))
    (subst (λ k. IsRaised w exceptions.InterruptedException k mid new) same raises))
  where
    same : t ≡ m.thread
    same = own ∙ ap (λ (x : Continuation). x.thread) stays.mounted
