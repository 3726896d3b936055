-- What is asked moves others as it may.
use Rattle.std.proofs.Common.{◌≡◌, ℕ, ◌+◌, ◌/◌, ℤ, pos, Bool, true, false, Option, Some, None, refl, ap, sym, subst, ◌∙◌}
use Rattle.std.specs.Prelude.{is_some, map, not, slice_get, unsigned_abs, ◌==◌, ◌&&◌, if◌then◌else◌}
use Rattle.std.specs.Int.{w64, int_wrap}
use Rattle.items.specs.Options.{◌>>=◌}
use Rattle.items.proofs.Binds.{some_is}
use Rattle.instruction_rows.specs.declared.value.Value.{Value}
use Rattle.instruction_rows.specs.declared.value.Value.TheVariants as values
use Rattle.vthread_state.specs.declared.phase.Phase.{Phase}
use Rattle.vthread_state.specs.declared.phase.Phase.TheVariants.{Run, Entering, Waiting, Parked, Asleep, Joining}
use Rattle.vthread_state.specs.declared.phase.Wake.TheVariants.{Notified, Interrupted}
use Rattle.vthread_state.specs.declared.thread.Status.{Status}
use Rattle.vthread_state.specs.declared.thread.Status.TheVariants.{New, Live, Done}
use Rattle.vthread_state.specs.JavaState.{java_state}
use Rattle.link_model.specs.World.{World}
use Rattle.schedule_model.specs.Look.{in_entry_list, is_in_line}
use Rattle.ref_model.specs.declared.exception.Exception.{Exception}
use Rattle.ref_model.specs.declared.exception.Exception.TheVariants.{IllegalArgumentException, IllegalMonitorStateException, IllegalThreadStateException}
use Rattle.ref_model.specs.State.{JavaThread, Owner, State, with_thread, with_status, with_permit, with_interrupt, with_owner, has_permit, is_interrupted}
use Rattle.ref_model.specs.Ending.{is_live}
use Rattle.ref_model.specs.Monitors.{owns, may_take, is_open_to, with_entry, with_exit, times_entered, entered_once, left_once}
use Rattle.ref_model.specs.Waiting.{deadline_of, park_deadline, millis_after, is_negative, is_over, has_waiter, is_waiting_on, status_woken, thread_woken, with_notified, notified_on, with_all_notified, thread_waits_on, nanos_in_milli}
use Rattle.ref_model.specs.Opening.{first_state}
use Rattle.ref_model.specs.ObjectNatives.{boolean}
use Rattle.ref_model.specs.Throwing.{raised}
use Rattle.ref_model.specs.Requests.{Request, current, yields, creates, starts, joins, sleeps, interrupts, tells_interrupt, takes_interrupt, tells_alive, tells_virtual, tells_daemon, tells_name, tells_state, sets_daemon, sets_name, parks, unparks, tells_nanos, tells_millis, enters, exits, waits_on, notifies, notifies_all, calls, is_timed, reads_clock}
use Rattle.ref_model.specs.Asking.{Asking, goes, gives_back, tells, goes_into, waits, thrown_interrupted}
use Rattle.ref_model.specs.Requesting.{unless_interrupted, slept, joined, thread_interrupted, is_virtual, state_ordinal, with_daemon, daemon_set, with_name, parked, thread_unparked, wait_begun, none_notified, asked, asked_with}
use Rattle.ref_model.specs.Looks.{spot_in, spot_of, phase_deadline, deadline_in}
use Rattle.step_soundness.proofs.Starts.{either}
use Rattle.schedule_soundness.specs.Started.{was_started}
use Rattle.schedule_soundness.specs.Moves.{Moved, still}
use Rattle.schedule_soundness.proofs.ThreadLists.{same_some, map_there, changed_is}
use Rattle.schedule_soundness.proofs.OwnSteps.{AsksNo, own_change, goes_own, back_value, into_own, waits_own, raised_own, interrupted_own}
use Rattle.schedule_soundness.proofs.OtherMoves.{spot_at, SomeMoves, StepMoves, OwnAfter, moves_after, owner_moves, own_moves, own_some, one_moves, woken_moves, interrupted_moves, unparked_moves, named_moves, daemon_moves, all_notified_moves}
use Rattle.schedule_soundness.proofs.Starting.{Runs, runs_with, still_going, created_moves, started_moves}

-- ---- outcomes of a request

raises : {asking : Option Request} (w : World) (r q : State) (t : ℕ) (x : Exception) → raised w r t x ≡ Some q → StepMoves w t r q asking
raises w r q t x e = own_moves w t r q (raised_own w r q t x e)

-- a value comes back
backs : {asking : Option Request} (w : World) (r q : State) (t : ℕ) (a : Asking) (v : Value) → Runs r t → gives_back r t a v ≡ Some q → StepMoves w t r q asking
backs w r q t a v on e = own_moves w t r q (back_value r q t a v (still_going r t on) e)

goes_on : {asking : Option Request} (w : World) (r q : State) (t : ℕ) (a : Asking) → Runs r t → goes r t a ≡ Some q → StepMoves w t r q asking
goes_on w r q t a on e = own_moves w t r q (goes_own r q t a (still_going r t on) e)

sleeps_on : {asking : Option Request} (w : World) (r q : State) (t : ℕ) (phase : Phase) → is_in_line (spot_in phase) ≡ false
    → (AsksNo reads_clock asking → phase_deadline phase ≡ None) → waits r t phase ≡ Some q → StepMoves w t r q asking
sleeps_on w r q t phase loose timeless e = own_moves w t r q (waits_own r q t phase loose timeless e)

-- other threads change, and the thread goes on
goes_after : {asking : Option Request} (w : World) (r s q : State) (t : ℕ) (a : Asking) → SomeMoves w t r s asking → Runs s t → goes s t a ≡ Some q → StepMoves w t r q asking
goes_after w r s q t a moves on e = moves_after w t r s q moves (goes_own s q t a (still_going s t on) e)

-- ---- tests before a request

timed : {asking : Option Request} (w : World) (r q : State) (t : ℕ) (time : Option ℤ) (rest : Option State) → (rest ≡ Some q → StepMoves w t r q asking)
    → (if is_negative time then raised w r t IllegalArgumentException else rest) ≡ Some q → StepMoves w t r q asking
timed w r q t time rest rest_is e =
    either (is_negative time) (raised w r t IllegalArgumentException) rest q (λ e. raises w r q t IllegalArgumentException e) rest_is e

heeded : {asking : Option Request} (w : World) (r q : State) (t : ℕ) (rest : Option State) → (rest ≡ Some q → StepMoves w t r q asking)
    → (if is_interrupted r t then thrown_interrupted w r t else rest) ≡ Some q → StepMoves w t r q asking
heeded w r q t rest rest_is e =
    either (is_interrupted r t) (thrown_interrupted w r t) rest q (λ e. own_moves w t r q (interrupted_own w r q t e)) rest_is e

owned : {asking : Option Request} (w : World) (r q : State) (t o : ℕ) (rest : Option State) → (rest ≡ Some q → StepMoves w t r q asking)
    → (if owns r t o then rest else raised w r t IllegalMonitorStateException) ≡ Some q → StepMoves w t r q asking
owned w r q t o rest rest_is e =
    either (owns r t o) rest (raised w r t IllegalMonitorStateException) q rest_is (λ e. raises w r q t IllegalMonitorStateException e) e

-- ---- waits

-- a wait without a time has no deadline
no_deadline : (now : ℕ) (time : Option ℤ) → is_timed time ≡ false → deadline_of now time ≡ None
no_deadline now None e = refl
no_deadline now (Some millis) e = absurd cc

no_park_deadline : (now : ℕ) (time : Option ℤ) → is_timed time ≡ false → park_deadline now time ≡ None
no_park_deadline now None e = refl
no_park_deadline now (Some nanos) e = absurd cc

slept_moves : (w : World) (r q : State) (t : ℕ) (a : Asking) (millis : ℤ) → Runs r t → slept r t a millis ≡ Some q → StepMoves w t r q (Some (sleeps millis))
slept_moves w r q t a millis on e =
    either (unsigned_abs millis == 0) (goes r t a) (waits r t (Asleep (millis_after r.now millis))) q (λ e. goes_on w r q t a on e)
    (λ e. sleeps_on w r q t (Asleep (millis_after r.now millis)) refl (λ z. absurd cc) e) e

joined_moves : (w : World) (r q : State) (t : ℕ) (a : Asking) (u : ℕ) (time : Option ℤ) (status : Status) → Runs r t
    → joined w r t a u time status ≡ Some q → StepMoves w t r q (Some (joins u time))
joined_moves w r q t a u time (Live phase) on e =
    let wait = waits r t (Joining u (deadline_of r.now time)) in
    heeded w r q t wait (λ e. sleeps_on w r q t (Joining u (deadline_of r.now time)) refl (no_deadline r.now time) e) e
joined_moves w r q t a u time New on e = goes_on w r q t a on e
joined_moves w r q t a u time Done on e = goes_on w r q t a on e

parked_moves : (w : World) (r q : State) (t : ℕ) (a : Asking) (time : Option ℤ) → Runs r t → parked r t a time ≡ Some q
    → StepMoves w t r q (Some (parks time))
parked_moves w r q t a time on e =
    let wait = waits r t (Parked (park_deadline r.now time)) in
    let rest : Option State = if is_interrupted r t then goes r t a else wait in
    let take : JavaThread → JavaThread = λ x. record x { permit = false } in
    let s = with_permit r t false in
    either (has_permit r t) (goes s t a) rest q
    (λ e. goes_after w r s q t a (own_some w t r s (own_change r t take)) (runs_with r t t take (λ x z. z) on) e)
    (λ e. either (is_interrupted r t) (goes r t a) wait q (λ e. goes_on w r q t a on e)
    (λ e. sleeps_on w r q t (Parked (park_deadline r.now time)) refl (no_park_deadline r.now time) e) e) e

wait_moves : (w : World) (r q : State) (t o : ℕ) (time : Option ℤ) → wait_begun r t o time ≡ Some q → StepMoves w t r q (Some (waits_on o time))
wait_moves w r q t o time e =
    let s = with_owner r o None in
    let phase = Waiting o (times_entered (r.owners o)) (deadline_of r.now time) in
    moves_after w t r s q (owner_moves w t r o None) (waits_own s q t phase refl (no_deadline r.now time) e)

-- the thread takes the monitor, or is in line for one that has an owner
taken_moves : {asking : Option Request} (w : World) (r q : State) (t o : ℕ) (goes_on : State → Option State) → (goes_on (with_entry r t o) ≡ Some q → StepMoves w t r q asking)
    → (if may_take r t o then goes_on (with_entry r t o) else waits r t (Entering o)) ≡ Some q → StepMoves w t r q asking
taken_moves {asking} w r q t o goes_on rest_is e = by (may_take r t o) refl e
  where
    enter : JavaThread → JavaThread
    enter x = record x { thread = record x.thread { status = Live (Entering o) } }

    has_owner : (m : Option Owner) → is_open_to t m ≡ false → is_some m ≡ true
    has_owner None e = absurd cc
    has_owner (Some x) e = refl

    in_line : may_take r t o ≡ false → (y : JavaThread) → y.thread.status ≡ Live (Entering o) → OwnAfter r asking y
    in_line closed y is =
        record {
          begun = ap (λ status. was_started (spot_of status)) is;
          dropped = λ z. let x : is_live (Live (Entering o)) ≡ false = sym (ap is_live is) ∙ z in absurd cc;
          came = λ p z. let x : in_entry_list o ≡ in_entry_list p = sym (ap spot_of is) ∙ z in
              let same : o ≡ p = cc in ap (λ n. is_some (r.owners n)) (sym same) ∙ has_owner (r.owners o) closed;
          timeless = λ z. ap deadline_in is;
        }

    by : (b : Bool) → may_take r t o ≡ b → (if b then goes_on (with_entry r t o) else waits r t (Entering o)) ≡ Some q → StepMoves w t r q asking
    by true is e = rest_is e
    by false is e =
        let same : with_status r t (Live (Entering o)) ≡ q = cc in
        let moves = own_change r t enter in
        subst (λ x. StepMoves w t r x asking) same
        (record {
          fresh = λ plain u ne off. ap (λ o. was_started (spot_at o)) (moves.others u ne) ∙ off;
          there = moves.there;
          now = moves.now;
          others = λ u ne. still (moves.others u ne);
          own = changed_is r t enter (OwnAfter r asking) (λ x at. in_line is (enter x) refl);
        })

-- ---- other threads

told_moves : {asking : Option Request} (w : World) (r q : State) (t : ℕ) (a : Asking) (u : ℕ) (change : JavaThread → JavaThread) → Runs r t
    → ((x : JavaThread) → Moved w (Some x) (Some (change x))) → ((x : JavaThread) → x.thread.status ≡ Live Run → (change x).thread.status ≡ Live Run)
    → ((x : JavaThread) → x.thread.status ≡ New → (change x).thread.status ≡ New) → goes (with_thread r u change) t a ≡ Some q → StepMoves w t r q asking
told_moves w r q t a u change on each keeps new e =
    goes_after w r (with_thread r u change) q t a (one_moves w t r u change (λ z. new) (λ x other at. each x)) (runs_with r t u change keeps on) e

-- what keeps a thread running
interrupt_runs : (x : JavaThread) → x.thread.status ≡ Live Run → (thread_interrupted x).thread.status ≡ Live Run
interrupt_runs x on = by (is_live x.thread.status)
  where
    by : (b : Bool) → (if b then record (thread_woken Interrupted x) { interrupted = true } else x).thread.status ≡ Live Run
    by true = ap (status_woken Interrupted) on
    by false = on

interrupt_new : (x : JavaThread) → x.thread.status ≡ New → (thread_interrupted x).thread.status ≡ New
interrupt_new x new = by (is_live x.thread.status)
  where
    by : (b : Bool) → (if b then record (thread_woken Interrupted x) { interrupted = true } else x).thread.status ≡ New
    by true = ap (status_woken Interrupted) new
    by false = new

unpark_new : (x : JavaThread) → x.thread.status ≡ New → (thread_unparked x).thread.status ≡ New
unpark_new x new = by (is_live x.thread.status)
  where
    by : (b : Bool) → (if b then record x { permit = true } else x).thread.status ≡ New
    by true = new
    by false = new

unpark_runs : (x : JavaThread) → x.thread.status ≡ Live Run → (thread_unparked x).thread.status ≡ Live Run
unpark_runs x on = by (is_live x.thread.status)
  where
    by : (b : Bool) → (if b then record x { permit = true } else x).thread.status ≡ Live Run
    by true = on
    by false = on

daemon_moves_on : {asking : Option Request} (w : World) (r q : State) (t : ℕ) (a : Asking) (u : ℕ) (daemon : Bool) (x : JavaThread) → Runs r t
    → daemon_set w r t a u daemon x ≡ Some q → StepMoves w t r q asking
daemon_moves_on w r q t a u daemon x on e =
    let set = goes (with_thread r u (with_daemon daemon)) t a in
    let rest : Option State = if is_live x.thread.status then raised w r t IllegalThreadStateException else set in
    either (is_virtual x.thread.kind && not daemon) (raised w r t IllegalArgumentException) rest q
    (λ e. raises w r q t IllegalArgumentException e)
    (λ e. either (is_live x.thread.status) (raised w r t IllegalThreadStateException) set q (λ e. raises w r q t IllegalThreadStateException e)
    (λ e. told_moves w r q t a u (with_daemon daemon) on (λ x. daemon_moves w x daemon) (λ x z. z) (λ x z. z) e) e) e

-- a thread that runs doesn't wait on a monitor
notified_runs : (o : ℕ) (x : JavaThread) → x.thread.status ≡ Live Run → (notified_on o x).thread.status ≡ Live Run
notified_runs o x on = by (thread_waits_on o x)
  where
    by : (b : Bool) → (if b then thread_woken Notified x else x).thread.status ≡ Live Run
    by true = ap (status_woken Notified) on
    by false = on

all_notified_run : (r : State) (t o : ℕ) (x : JavaThread) → slice_get r.threads t ≡ Some x → Runs r t → Runs (with_all_notified r o) t
all_notified_run r t o x there on y at =
    let same = same_some (slice_get (map (notified_on o) r.threads) t) (notified_on o x) y (map_there (notified_on o) r.threads t x there) at in
    ap (λ (z : JavaThread). z.thread.status) (sym same) ∙ notified_runs o x (on x there)

-- ---- the requests

pub asked_moves : (w : World) (r q : State) (t : ℕ) (a : Asking) (request : Request) (me : JavaThread) → slice_get r.threads t ≡ Some me → Runs r t
    → asked w r t a request ≡ Some q → StepMoves w t r q (Some request)
asked_moves w r q t a current me there on e =
    let x = some_is (slice_get r.threads t) (λ x. gives_back r t a (values.Ref x.thread.object)) q e in
    backs w r q t a (values.Ref x.0.thread.object) on x.2
asked_moves w r q t a yields me there on e = goes_on w r q t a on e
asked_moves w r q t a (creates kind object name) me there on e = created_moves w r q t a kind object name on e
asked_moves w r q t a (starts u) me there on e = started_moves w r q t a u on e
asked_moves w r q t a (joins u time) me there on e =
    let rest = slice_get r.threads u >>= λ x. joined w r t a u time x.thread.status in
    timed w r q t time rest (λ e. let x = some_is (slice_get r.threads u) (λ x. joined w r t a u time x.thread.status) q e in
    joined_moves w r q t a u time x.0.thread.status on x.2) e
asked_moves w r q t a (sleeps millis) me there on e =
    timed w r q t (Some millis) (unless_interrupted w r t (slept r t a millis))
    (λ e. heeded w r q t (slept r t a millis) (λ e. slept_moves w r q t a millis on e) e) e
asked_moves w r q t a (interrupts u) me there on e = told_moves w r q t a u thread_interrupted on (λ x. interrupted_moves w x) interrupt_runs interrupt_new e
asked_moves w r q t a (tells_interrupt u) me there on e = backs w r q t a (boolean (is_interrupted r u)) on e
asked_moves w r q t a takes_interrupt me there on e =
    let clear : JavaThread → JavaThread = λ x. record x { interrupted = false } in
    let s = with_interrupt r t false in
    moves_after w t r s q (own_some w t r s (own_change r t clear))
    (back_value s q t a (boolean (is_interrupted r t)) (still_going s t (runs_with r t t clear (λ x z. z) on)) e)
asked_moves w r q t a (tells_alive u) me there on e =
    let x = some_is (slice_get r.threads u) (λ x. tells r t a (is_live x.thread.status)) q e in
    backs w r q t a (boolean (is_live x.0.thread.status)) on x.2
asked_moves w r q t a (tells_virtual u) me there on e =
    let x = some_is (slice_get r.threads u) (λ x. tells r t a (is_virtual x.thread.kind)) q e in
    backs w r q t a (boolean (is_virtual x.0.thread.kind)) on x.2
asked_moves w r q t a (tells_daemon u) me there on e =
    let x = some_is (slice_get r.threads u) (λ x. tells r t a x.thread.daemon) q e in backs w r q t a (boolean x.0.thread.daemon) on x.2
asked_moves w r q t a (tells_name u) me there on e =
    let x = some_is (slice_get r.threads u) (λ x. gives_back r t a (values.Ref x.thread.name)) q e in
    backs w r q t a (values.Ref x.0.thread.name) on x.2
asked_moves w r q t a (tells_state u) me there on e =
    let x = some_is (slice_get r.threads u)
    (λ x. gives_back r t a (values.Ref (first_state + state_ordinal (java_state x.thread.status)))) q e in
    backs w r q t a (values.Ref (first_state + state_ordinal (java_state x.0.thread.status))) on x.2
asked_moves w r q t a (sets_daemon u daemon) me there on e =
    let x = some_is (slice_get r.threads u) (daemon_set w r t a u daemon) q e in daemon_moves_on w r q t a u daemon x.0 on x.2
asked_moves w r q t a (sets_name u name) me there on e =
    told_moves w r q t a u (with_name name) on (λ x. named_moves w x name) (λ x z. z) (λ x z. z) e
asked_moves w r q t a (parks time) me there on e =
    either (is_over time) (goes r t a) (parked r t a time) q (λ e. goes_on w r q t a on e) (λ e. parked_moves w r q t a time on e) e
asked_moves w r q t a (unparks u) me there on e = told_moves w r q t a u thread_unparked on (λ x. unparked_moves w x) unpark_runs unpark_new e
asked_moves w r q t a tells_nanos me there on e = backs w r q t a (values.Long (int_wrap w64 (pos r.now))) on e
asked_moves w r q t a tells_millis me there on e = backs w r q t a (values.Long (pos (r.now / nanos_in_milli))) on e
asked_moves w r q t a (enters o) me there on e =
    taken_moves w r q t o (λ s. goes s t a)
    (λ e. goes_after w r (with_entry r t o) q t a (owner_moves w t r o (Some (entered_once t (r.owners o)))) on e) e
asked_moves w r q t a (exits o) me there on e =
    owned w r q t o (goes (with_exit r o) t a)
    (λ e. goes_after w r (with_exit r o) q t a (owner_moves w t r o (left_once (r.owners o))) on e) e
asked_moves w r q t a (waits_on o time) me there on e =
    let inner : Option State = unless_interrupted w r t (wait_begun r t o time) in
    let owner : Option State = if owns r t o then inner else raised w r t IllegalMonitorStateException in
    timed w r q t time owner
    (λ e. owned w r q t o inner (λ e. heeded w r q t (wait_begun r t o time) (λ e. wait_moves w r q t o time e) e) e) e
asked_moves w r q t a (notifies o) me there on e =
    owned w r q t o (none_notified r t a o)
    (λ e. either (has_waiter r o) None (goes r t a) q (λ e. absurd cc) (λ e. goes_on w r q t a on e) e) e
asked_moves w r q t a (notifies_all o) me there on e =
    owned w r q t o (goes (with_all_notified r o) t a)
    (λ e. goes_after w r (with_all_notified r o) q t a (all_notified_moves w t r o) (all_notified_run r t o me there on) e) e
asked_moves w r q t a (calls o g) me there on e =
    taken_moves w r q t o (λ s. goes_into s t a g)
    (λ e. let s = with_entry r t o in
    moves_after w t r s q (owner_moves w t r o (Some (entered_once t (r.owners o)))) (into_own s q t a g (still_going s t on) e)) e

-- ---- a notify that picks a thread

pub picked_moves : {asking : Option Request} (w : World) (r q : State) (t : ℕ) (a : Asking) (u : ℕ) (request : Request) → Runs r t → asked_with r t a u request ≡ Some q
    → StepMoves w t r q asking
picked_moves w r q t a u (notifies o) on e =
    either (owns r t o && is_waiting_on r o u) (goes (with_notified r u) t a) None q
    (λ e. told_moves w r q t a u (thread_woken Notified) on (λ x. woken_moves w Notified x) (λ x z. ap (status_woken Notified) z) (λ x z. ap (status_woken Notified) z) e)
    (λ e. absurd cc) e
picked_moves w r q t a u request on e = absurd cc
