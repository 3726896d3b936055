-- What is asked, and waits that are over, keep to the typing.
use Rattle.std.proofs.Common.{◌≡◌, ℕ, ◌+◌, ◌/◌, ℤ, pos, Bool, false, List, ◌∷◌, Option, Some, None, refl, sym, subst, ◌∙◌}
use Rattle.std.specs.Prelude.{not, slice_get, unsigned_abs, ◌==◌, ◌&&◌, if◌then◌else◌}
use Rattle.std.specs.Int.{w64, int_wrap}
use Rattle.items.specs.Options.{◌>>=◌}
use Rattle.items.proofs.Binds.{some_is, bind_is}
use Rattle.opcodes.specs.declared.op.ValueKind.{ValueKind}
use Rattle.opcodes.specs.declared.op.ValueKind.TheVariants as kinds
use Rattle.instruction_rows.specs.declared.value.Value.{Value}
use Rattle.instruction_rows.specs.declared.value.Value.TheVariants as values
use Rattle.instruction_rows.specs.declared.value.Slot.{Slot}
use Rattle.instruction_rows.specs.SlotEffect.{pushed}
use Rattle.vthread_state.specs.declared.phase.Phase.{Phase}
use Rattle.vthread_state.specs.declared.phase.Phase.TheVariants.{Entering, Waiting, Parked, Asleep, Joining}
use Rattle.vthread_state.specs.declared.thread.Status.{Status}
use Rattle.vthread_state.specs.declared.thread.Status.TheVariants.{New, Live, Done}
use Rattle.vthread_state.specs.JavaState.{java_state}
use Rattle.link_model.specs.World.{World}
use Rattle.verify_types.specs.Typing.{AreTyped}
use Rattle.ref_model.specs.declared.exception.Exception.TheVariants.{IllegalArgumentException, IllegalMonitorStateException, IllegalThreadStateException}
use Rattle.ref_model.specs.State.{JavaThread, State, with_frames, with_thread, with_status, with_permit, with_interrupt, with_owner, has_permit, is_interrupted}
use Rattle.ref_model.specs.Ending.{is_live}
use Rattle.ref_model.specs.Monitors.{owns, may_take, with_entry, with_exit, times_entered, entered_once, left_once}
use Rattle.ref_model.specs.Waiting.{deadline_of, park_deadline, millis_after, is_negative, is_over, has_waiter, is_waiting_on, with_notified, with_all_notified, nanos_in_milli}
use Rattle.ref_model.specs.Opening.{first_state}
use Rattle.ref_model.specs.Frames.{behind}
use Rattle.ref_model.specs.ObjectNatives.{boolean}
use Rattle.ref_model.specs.Throwing.{raised}
use Rattle.ref_model.specs.Requests.{Request, request_result, current, yields, creates, starts, joins, sleeps, interrupts, tells_interrupt, takes_interrupt, tells_alive, tells_virtual, tells_daemon, tells_name, tells_state, sets_daemon, sets_name, parks, unparks, tells_nanos, tells_millis, enters, exits, waits_on, notifies, notifies_all, calls}
use Rattle.ref_model.specs.Asking.{Asking, goes, gives_back, tells, goes_into, waits, thrown_interrupted}
use Rattle.ref_model.specs.Requesting.{unless_interrupted, slept, joined, thread_interrupted, is_virtual, state_ordinal, with_daemon, daemon_set, with_name, parked, thread_unparked, wait_begun, none_notified, asked, asked_with}
use Rattle.ref_model.specs.Resuming.{finished_without, finished_asking}
use Rattle.frame_soundness.specs.Typed.{Typed}
use Rattle.frame_soundness.specs.TypedStates.{AreOfPhase, IsTypedState}
use Rattle.frame_soundness.specs.EventLaws.{WithBack}
use Rattle.frame_soundness.specs.ThrowLaws.{OfFrames}
use Rattle.frame_soundness.specs.StepKinds.{FrameGoesOn, IsAsked}
use Rattle.frame_soundness.proofs.Raises.{raises_keep}
use Rattle.frame_soundness.proofs.ThreadLaws.{thread_changed, frames_keep}
use Rattle.step_soundness.specs.Resolutions.{RunsFit}
use Rattle.step_soundness.proofs.StateChanges.{may_throw, status_keeps, interrupt_keeps, thrown_interrupted_keeps, notified_keeps, interrupted_fits, unparked_fits, all_notified_keep, owner_keeps}
use Rattle.step_soundness.proofs.Starts.{either, created_keeps, started_keeps}

same_state : (a b : State) → ◌≡◌ {A = Option State} (Some a) (Some b) → a ≡ b
same_state a b e = cc

-- what is known of a state that is known
pub known_state : (w : World) (a b : State) → ◌≡◌ {A = Option State} (Some a) (Some b) → IsTypedState w a → IsTypedState w b
known_state w a b e typed = subst (IsTypedState w) (same_state a b e) typed

-- ---- how a thread goes on

after_goes : (w : World) (r q : State) (t : ℕ) (a : Asking) (stack : List Slot) → IsTypedState w r → FrameGoesOn w a.frame a.below a.next stack
    → (behind a.frame a.next stack >>= λ g. Some (with_frames r t (g ∷ a.below))) ≡ Some q → IsTypedState w q
after_goes w r q t a stack typed on e =
    let after = with_frames r t (on.frame ∷ a.below) in
    known_state w after q
    (sym (bind_is (behind a.frame a.next stack) (λ g. Some (with_frames r t (g ∷ a.below))) on.frame (Some after) on.is refl) ∙ e)
    (frames_keep w r t (on.frame ∷ a.below) typed on.typed)

after_waits : (w : World) (r q : State) (t : ℕ) (phase : Phase) → IsTypedState w r → OfFrames r t (λ frames. AreOfPhase w frames phase)
    → waits r t phase ≡ Some q → IsTypedState w q
after_waits w r q t phase typed of e = known_state w (with_status r t (Live phase)) q e (status_keeps w r t phase typed of)

-- ---- the requests

-- what is known where a thread asks
record Asks (w : World) (r : State) (t : ℕ) : Type 0 where
  pub typed : IsTypedState w r
  pub of : OfFrames r t (Typed w)

joined_keeps : (w : World) (r q : State) (t : ℕ) (a : Asking) (u : ℕ) (time : Option ℤ) (status : Status) → Asks w r t
    → FrameGoesOn w a.frame a.below a.next a.stack → joined w r t a u time status ≡ Some q → IsTypedState w q
joined_keeps w r q t a u time New k on e = after_goes w r q t a a.stack k.typed on e
joined_keeps w r q t a u time Done k on e = after_goes w r q t a a.stack k.typed on e
joined_keeps w r q t a u time (Live phase) k on e =
    either (is_interrupted r t) (thrown_interrupted w r t) (waits r t (Joining u (deadline_of r.now time))) q
    (λ e. thrown_interrupted_keeps w r q t k.typed k.of e) (λ e. after_waits w r q t (Joining u (deadline_of r.now time)) k.typed k.of e) e

slept_keeps : (w : World) (r q : State) (t : ℕ) (a : Asking) (millis : ℤ) → Asks w r t → FrameGoesOn w a.frame a.below a.next a.stack
    → unless_interrupted w r t (slept r t a millis) ≡ Some q → IsTypedState w q
slept_keeps w r q t a millis k on e =
    either (is_interrupted r t) (thrown_interrupted w r t) (slept r t a millis) q (λ e. thrown_interrupted_keeps w r q t k.typed k.of e)
    (λ e. either (unsigned_abs millis == 0) (goes r t a) (waits r t (Asleep (millis_after r.now millis))) q
    (λ e. after_goes w r q t a a.stack k.typed on e) (λ e. after_waits w r q t (Asleep (millis_after r.now millis)) k.typed k.of e) e) e

parked_keeps : (w : World) (r q : State) (t : ℕ) (a : Asking) (time : Option ℤ) → Asks w r t → FrameGoesOn w a.frame a.below a.next a.stack
    → parked r t a time ≡ Some q → IsTypedState w q
parked_keeps w r q t a time k on e =
    let otherwise : Option State =
    if is_interrupted r t then goes r t a else waits r t (Parked (park_deadline r.now time)) in
    either (has_permit r t) (goes (with_permit r t false) t a) otherwise q
    (λ e. after_goes w (with_permit r t false) q t a a.stack
    (thread_changed w r t (λ thread. record thread { permit = false }) k.typed (λ x at. k.typed.threads t x at)) on e)
    (λ e. either (is_interrupted r t) (goes r t a) (waits r t (Parked (park_deadline r.now time))) q
    (λ e. after_goes w r q t a a.stack k.typed on e) (λ e. after_waits w r q t (Parked (park_deadline r.now time)) k.typed k.of e) e) e

daemon_keeps : (w : World) (r q : State) (t : ℕ) (a : Asking) (u : ℕ) (daemon : Bool) (x : JavaThread) → Asks w r t
    → FrameGoesOn w a.frame a.below a.next a.stack → daemon_set w r t a u daemon x ≡ Some q → IsTypedState w q
daemon_keeps w r q t a u daemon x k on e =
    let otherwise : Option State =
    if is_live x.thread.status then raised w r t IllegalThreadStateException else goes (with_thread r u (with_daemon daemon)) t a in
    either (is_virtual x.thread.kind && not daemon) (raised w r t IllegalArgumentException) otherwise q
    (λ e. raises_keep w r q t IllegalArgumentException k.typed (may_throw w r t k.of) e)
    (λ e. either (is_live x.thread.status) (raised w r t IllegalThreadStateException) (goes (with_thread r u (with_daemon daemon)) t a) q
    (λ e. raises_keep w r q t IllegalThreadStateException k.typed (may_throw w r t k.of) e)
    (λ e. after_goes w (with_thread r u (with_daemon daemon)) q t a a.stack
    (thread_changed w r u (with_daemon daemon) k.typed (λ y at. k.typed.threads u y at)) on e) e) e

wait_keeps : (w : World) (r q : State) (t o : ℕ) (time : Option ℤ) → Asks w r t → unless_interrupted w r t (wait_begun r t o time) ≡ Some q
    → IsTypedState w q
wait_keeps w r q t o time k e =
    either (is_interrupted r t) (thrown_interrupted w r t) (wait_begun r t o time) q (λ e. thrown_interrupted_keeps w r q t k.typed k.of e)
    (λ e. after_waits w (with_owner r o None) q t (Waiting o (times_entered (r.owners o)) (deadline_of r.now time))
    (owner_keeps w r o None k.typed) (λ x at. k.of x at) e) e

-- not the owner, or the rest
owned_keeps : (w : World) (r q : State) (t o : ℕ) (otherwise : Option State) → Asks w r t → (otherwise ≡ Some q → IsTypedState w q)
    → (if owns r t o then otherwise else raised w r t IllegalMonitorStateException) ≡ Some q → IsTypedState w q
owned_keeps w r q t o otherwise k rest e =
    either (owns r t o) otherwise (raised w r t IllegalMonitorStateException) q rest
    (λ e. raises_keep w r q t IllegalMonitorStateException k.typed (may_throw w r t k.of) e) e

-- a negative time, or the rest
timed_keeps : (w : World) (r q : State) (t : ℕ) (time : Option ℤ) (otherwise : Option State) → Asks w r t → (otherwise ≡ Some q → IsTypedState w q)
    → (if is_negative time then raised w r t IllegalArgumentException else otherwise) ≡ Some q → IsTypedState w q
timed_keeps w r q t time otherwise k rest e =
    either (is_negative time) (raised w r t IllegalArgumentException) otherwise q
    (λ e. raises_keep w r q t IllegalArgumentException k.typed (may_throw w r t k.of) e) rest e

-- the monitor, or the wait for it
taken_keeps : (w : World) (r q : State) (t o : ℕ) (go : State → Option State) → Asks w r t
    → ((s : State) → IsTypedState w s → go s ≡ Some q → IsTypedState w q)
    → (if may_take r t o then go (with_entry r t o) else waits r t (Entering o)) ≡ Some q → IsTypedState w q
taken_keeps w r q t o go k rest e =
    either (may_take r t o) (go (with_entry r t o)) (waits r t (Entering o)) q
    (λ e. rest (with_entry r t o) (owner_keeps w r o (Some (entered_once t (r.owners o))) k.typed) e)
    (λ e. after_waits w r q t (Entering o) k.typed k.of e) e

-- a boolean comes back
told : (w : World) (r q : State) (t : ℕ) (a : Asking) (b : Bool) → IsTypedState w r
    → WithBack (Some kinds.Int) a.stack (λ xs. FrameGoesOn w a.frame a.below a.next xs) → tells r t a b ≡ Some q → IsTypedState w q
told w r q t a b typed on e = after_goes w r q t a (pushed (boolean b) a.stack) typed (on (Some (boolean b)) refl) e

pub asked_keeps : (w : World) (r q : State) (t : ℕ) (a : Asking) (request : Request) → AreTyped w → RunsFit w → IsTypedState w r
    → OfFrames r t (Typed w) → IsAsked w a.frame a.below a.next request a.stack → asked w r t a request ≡ Some q → IsTypedState w q
asked_keeps w r q t a current typed_world runs typed of on e =
    let x = some_is (slice_get r.threads t) (λ x. gives_back r t a (values.Ref x.thread.object)) q e in
    after_goes w r q t a (pushed (values.Ref x.0.thread.object) a.stack) typed (on (Some (values.Ref x.0.thread.object)) refl) x.2
asked_keeps w r q t a yields typed_world runs typed of on e = after_goes w r q t a a.stack typed (on None tt) e
asked_keeps w r q t a (creates kind object name) typed_world runs typed of on e =
    created_keeps w r q t a kind object name typed of (λ s good e. after_goes w s q t a a.stack good (on None tt) e) e
asked_keeps w r q t a (starts u) typed_world runs typed of on e =
    started_keeps w r q t a u typed_world runs typed of (λ s good e. after_goes w s q t a a.stack good (on None tt) e) e
asked_keeps w r q t a (joins u time) typed_world runs typed of on e =
    let k : Asks w r t = record { typed = typed; of = of } in
    timed_keeps w r q t time (slice_get r.threads u >>= λ x. joined w r t a u time x.thread.status) k
    (λ e. let x = some_is (slice_get r.threads u) (λ x. joined w r t a u time x.thread.status) q e in
    joined_keeps w r q t a u time x.0.thread.status k (on None tt) x.2) e
asked_keeps w r q t a (sleeps millis) typed_world runs typed of on e =
    let k : Asks w r t = record { typed = typed; of = of } in
    timed_keeps w r q t (Some millis) (unless_interrupted w r t (slept r t a millis)) k
    (λ e. slept_keeps w r q t a millis k (on None tt) e) e
asked_keeps w r q t a (interrupts u) typed_world runs typed of on e =
    after_goes w (with_thread r u thread_interrupted) q t a a.stack
    (thread_changed w r u thread_interrupted typed (λ x at. interrupted_fits w x (typed.threads u x at))) (on None tt) e
asked_keeps w r q t a (tells_interrupt u) typed_world runs typed of on e = told w r q t a (is_interrupted r u) typed on e
asked_keeps w r q t a takes_interrupt typed_world runs typed of on e =
    told w (with_interrupt r t false) q t a (is_interrupted r t) (interrupt_keeps w r t false typed) on e
asked_keeps w r q t a (tells_alive u) typed_world runs typed of on e =
    let x = some_is (slice_get r.threads u) (λ x. tells r t a (is_live x.thread.status)) q e in
    told w r q t a (is_live x.0.thread.status) typed on x.2
asked_keeps w r q t a (tells_virtual u) typed_world runs typed of on e =
    let x = some_is (slice_get r.threads u) (λ x. tells r t a (is_virtual x.thread.kind)) q e in
    told w r q t a (is_virtual x.0.thread.kind) typed on x.2
asked_keeps w r q t a (tells_daemon u) typed_world runs typed of on e =
    let x = some_is (slice_get r.threads u) (λ x. tells r t a x.thread.daemon) q e in told w r q t a x.0.thread.daemon typed on x.2
asked_keeps w r q t a (tells_name u) typed_world runs typed of on e =
    let x = some_is (slice_get r.threads u) (λ x. gives_back r t a (values.Ref x.thread.name)) q e in
    after_goes w r q t a (pushed (values.Ref x.0.thread.name) a.stack) typed (on (Some (values.Ref x.0.thread.name)) refl) x.2
asked_keeps w r q t a (tells_state u) typed_world runs typed of on e =
    let x = some_is (slice_get r.threads u)
    (λ x. gives_back r t a (values.Ref (first_state + state_ordinal (java_state x.thread.status)))) q e in
    let v : Value = values.Ref (first_state + state_ordinal (java_state x.0.thread.status)) in
    after_goes w r q t a (pushed v a.stack) typed (on (Some v) refl) x.2
asked_keeps w r q t a (sets_daemon u daemon) typed_world runs typed of on e =
    let x = some_is (slice_get r.threads u) (daemon_set w r t a u daemon) q e in
    daemon_keeps w r q t a u daemon x.0 (record { typed = typed; of = of }) (on None tt) x.2
asked_keeps w r q t a (sets_name u name) typed_world runs typed of on e =
    after_goes w (with_thread r u (with_name name)) q t a a.stack
    (thread_changed w r u (with_name name) typed (λ x at. typed.threads u x at)) (on None tt) e
asked_keeps w r q t a (parks time) typed_world runs typed of on e =
    either (is_over time) (goes r t a) (parked r t a time) q (λ e. after_goes w r q t a a.stack typed (on None tt) e)
    (λ e. parked_keeps w r q t a time (record { typed = typed; of = of }) (on None tt) e) e
asked_keeps w r q t a (unparks u) typed_world runs typed of on e =
    after_goes w (with_thread r u thread_unparked) q t a a.stack
    (thread_changed w r u thread_unparked typed (λ x at. unparked_fits w x (typed.threads u x at))) (on None tt) e
asked_keeps w r q t a tells_nanos typed_world runs typed of on e =
    let v : Value = values.Long (int_wrap w64 (pos r.now)) in after_goes w r q t a (pushed v a.stack) typed (on (Some v) refl) e
asked_keeps w r q t a tells_millis typed_world runs typed of on e =
    let v : Value = values.Long (pos (r.now / nanos_in_milli)) in after_goes w r q t a (pushed v a.stack) typed (on (Some v) refl) e
asked_keeps w r q t a (enters o) typed_world runs typed of on e =
    taken_keeps w r q t o (λ s. goes s t a) (record { typed = typed; of = of })
    (λ s good e. after_goes w s q t a a.stack good (on None tt) e) e
asked_keeps w r q t a (exits o) typed_world runs typed of on e =
    owned_keeps w r q t o (goes (with_exit r o) t a) (record { typed = typed; of = of })
    (λ e. after_goes w (with_exit r o) q t a a.stack (owner_keeps w r o (left_once (r.owners o)) typed) (on None tt) e) e
asked_keeps w r q t a (waits_on o time) typed_world runs typed of on e =
    let k : Asks w r t = record { typed = typed; of = of } in
    let inner : Option State = unless_interrupted w r t (wait_begun r t o time) in
    let owner : Option State = if owns r t o then inner else raised w r t IllegalMonitorStateException in
    timed_keeps w r q t time owner k (λ e. owned_keeps w r q t o inner k (λ e. wait_keeps w r q t o time k e) e) e
asked_keeps w r q t a (notifies o) typed_world runs typed of on e =
    owned_keeps w r q t o (none_notified r t a o) (record { typed = typed; of = of })
    (λ e. either (has_waiter r o) None (goes r t a) q (λ e. absurd cc) (λ e. after_goes w r q t a a.stack typed (on None tt) e) e) e
asked_keeps w r q t a (notifies_all o) typed_world runs typed of on e =
    owned_keeps w r q t o (goes (with_all_notified r o) t a) (record { typed = typed; of = of })
    (λ e. after_goes w (with_all_notified r o) q t a a.stack (all_notified_keep w r o typed) (on None tt) e) e
asked_keeps w r q t a (calls o g) typed_world runs typed of on e =
    taken_keeps w r q t o (λ s. goes_into s t a g) (record { typed = typed; of = of })
    (λ s good e. known_state w (with_frames s t (g ∷ record a.frame { stack = a.stack } ∷ a.below)) q e
    (frames_keep w s t (g ∷ record a.frame { stack = a.stack } ∷ a.below) good on)) e

-- ---- a notify that picks a thread

pub picked_keeps : (w : World) (r q : State) (t : ℕ) (a : Asking) (u : ℕ) (request : Request) → IsTypedState w r
    → IsAsked w a.frame a.below a.next request a.stack → asked_with r t a u request ≡ Some q → IsTypedState w q
picked_keeps w r q t a u (notifies o) typed on e =
    either (owns r t o && is_waiting_on r o u) (goes (with_notified r u) t a) None q
    (λ e. after_goes w (with_notified r u) q t a a.stack (notified_keeps w r u typed) (on None tt) e) (λ e. absurd cc) e
picked_keeps w r q t a u request typed on e = absurd cc

-- ---- a wait that is over

without_keeps : (w : World) (r q : State) (t : ℕ) (a : Asking) (result : Option ValueKind) → IsTypedState w r
    → WithBack result a.stack (λ xs. FrameGoesOn w a.frame a.below a.next xs) → finished_without r t a result ≡ Some q → IsTypedState w q
without_keeps w r q t a None typed on e = after_goes w r q t a a.stack typed (on None tt) e
without_keeps w r q t a (Some kind) typed on e = absurd cc

pub finished_keeps_on : (w : World) (r q : State) (t : ℕ) (a : Asking) (request : Request) → IsTypedState w r
    → IsAsked w a.frame a.below a.next request a.stack → finished_asking r t a request ≡ Some q → IsTypedState w q
finished_keeps_on w r q t a (calls o g) typed on e =
    known_state w (with_frames r t (g ∷ record a.frame { stack = a.stack } ∷ a.below)) q e
    (frames_keep w r t (g ∷ record a.frame { stack = a.stack } ∷ a.below) typed on)
finished_keeps_on w r q t a request typed on e = without_keeps w r q t a (request_result request) typed on e
