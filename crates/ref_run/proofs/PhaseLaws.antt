-- The step of a thread, by its phase.
use Rattle.std.proofs.Common.{◌≡◌, ℕ, Bool, true, false, List, Option, Some, None, Result, Ok, Err, OnOk, refl, ap, sym, subst, ◌∙◌}
use Rattle.std.specs.Prelude.{is_some, slice_get, slice_set, if◌then◌else◌}
use Rattle.std.specs.Option.{option_map, option_map_or}
use Rattle.items.specs.Options.{◌>>=◌}
use Rattle.items.proofs.Binds.{bind_is}
use Rattle.opcodes.specs.declared.op.ValueKind.{ValueKind}
use Rattle.vthread_state.specs.declared.phase.Phase.{Phase}
use Rattle.vthread_state.specs.declared.phase.Phase.TheVariants.{Run}
use Rattle.vthread_state.specs.declared.phase.Wake.{Wake}
use Rattle.vthread_state.specs.declared.phase.Wake.TheVariants.{Interrupted}
use Rattle.vthread_state.specs.declared.thread.Status.{Status}
use Rattle.vthread_state.specs.declared.thread.Status.TheVariants.{New, Live, Done}
use Rattle.link_model.specs.World.{World}
use Rattle.state_model.specs.Frames.{Frame}
use Rattle.frame_soundness.specs.TypedStates.{AreOfPhase, AreOfStatus, IsTypedState}
use Rattle.ref_model.specs.Asking.{Asking, goes, thrown_interrupted, with_run}
use Rattle.ref_model.specs.LocalRows.{row}
use Rattle.ref_model.specs.Requesting.{asked, asked_with}
use Rattle.ref_model.specs.Requests.{Request, calls, request_of, request_result}
use Rattle.ref_model.specs.Resuming.{asking_at, asking_in, entered_monitor, entered_with, finished_asking, finished_without, is_first_entry, park_over, reentered, resumed, waited}
use Rattle.ref_model.specs.Monitors.{with_entry, with_monitor}
use Rattle.ref_model.specs.State.{JavaThread, State, frames_at, running_frames, with_owner, with_permit, with_status, with_thread}
use Rattle.ref_model.specs.Step.{phase_step, picking_step, row_or_event, status_step, thread_step}
use Rattle.ref_model.specs.declared.request.ThreadRequest.{ThreadRequest}
use Rattle.ref_model.specs.declared.request.ThreadRequest.TheVariants as requests
use Rattle.ref_model.proofs.StateLaws.{get_set}
use Rattle.invocation.specs.declared.synchronized_calls.SynchronizedCall.{SynchronizedCall}
use Rattle.thread_steps.specs.declared.progress.MonitorReturn.{MonitorReturn}
use Rattle.thread_steps.specs.declared.progress.PendingRequest.{PendingRequest}
use Rattle.thread_steps.specs.Asking.{asking_of}
use Rattle.ref_run.specs.declared.fault.Fault.{Fault}
use Rattle.ref_run.specs.declared.state.RefState.{RefState}
use Rattle.ref_run.specs.GoingOn.{Comes, LeadsTo, Makes, asking_call}
use Rattle.ref_run.specs.States.{frames_of}
use Rattle.ref_run.specs.Steps.{HasStepped, HasTyped, IsCallPending, IsPending, IsReturnPending, is_running_status}
use Rattle.ref_run.proofs.GoingOnLaws.{frames_at as frames_had}
use Rattle.ref_run.proofs.StageLaws.{thread_is}
use Rattle.ref_run.proofs.StepLaws.{pending_step}

-- ---- frames of a thread that was changed otherwise

-- a change that leaves its frames
pub frames_stay : (r : State) (t : ℕ) (change : JavaThread → JavaThread) → ((x : JavaThread) → (change x).frames ≡ x.frames) → frames_of (with_thread r t change) t ≡ frames_of r t
frames_stay r t change same = by (slice_get r.threads t) refl
  where
    by : (o : Option JavaThread) → slice_get r.threads t ≡ o → frames_of (with_thread r t change) t ≡ frames_of r t
    by None at = ap (λ o. frames_of (option_map_or (λ x. record r { threads = slice_set r.threads t (change x) }) o r) t) at
    by (Some x) at =
        ap (λ s. frames_of s t) (thread_is r t change x at)
        ∙ ap (λ o. option_map (λ (y : JavaThread). y.frames) o) (get_set r.threads t x (change x) at)
        ∙ ap (λ fs. Some fs) (same x) ∙ sym (ap (λ o. option_map (λ (y : JavaThread). y.frames) o) at)

pub permit_frames : (r : State) (t : ℕ) (permit : Bool) → frames_of (with_permit r t permit) t ≡ frames_of r t
permit_frames r t permit = frames_stay r t (λ x. record x { permit = permit }) (λ x. refl)

pub status_frames : (r : State) (t : ℕ) (status : Status) → frames_of (with_status r t status) t ≡ frames_of r t
status_frames r t status = frames_stay r t (λ x. record x { thread = record x.thread { status = status } }) (λ x. refl)

-- so frames that keep to the typing still do
pub typed_still : (w : World) (r s : State) (t : ℕ) → frames_of s t ≡ frames_of r t → HasTyped w r t → HasTyped w s t
typed_still w r s t same typed frames at = typed frames (sym same ∙ at)

-- ---- the instruction asks something

pub comes_by : (one other : Option State) (result : Result (Unit {0}) Fault) (a : RefState) → one ≡ other → Comes other result a → Comes one result a
comes_by one other result a same is = subst (λ o. Comes o result a) (sym same) is

pub request_made : (w : World) (r s : State) (t : ℕ) (q : PendingRequest) (frames : List Frame) (result : Result (Unit {0}) Fault) (a : RefState) → s ≡ r
    → frames_of r t ≡ Some frames → IsPending w r q frames → Makes (λ k x. asked w k t x (request_of q.request)) t q s result a
    → Comes (row_or_event w r t frames (row w frames)) result a
request_made w r s t q frames result a same has p makes =
    comes_by (row_or_event w r t frames (row w frames)) (asked w s t (asking_of q p.frame p.below) (request_of q.request)) result a
    (pending_step w r t q frames p ∙ ap (λ k. asked w k t (asking_of q p.frame p.below) (request_of q.request)) (sym same))
    (makes p.frame p.below (ap (λ k. frames_of k t) same ∙ has ∙ ap (λ fs. Some fs) p.top))

-- ---- a wait is over

finished_is : (r : State) (t : ℕ) (a : Asking) (q : ThreadRequest) → finished_asking r t a (request_of q) ≡ finished_without r t a (request_result (request_of q))
finished_is r t a requests.Current = refl
finished_is r t a q = refl

without_is : (r : State) (t : ℕ) (a : Asking) (kind : Option ValueKind) → is_some kind ≡ false → finished_without r t a kind ≡ goes r t a
without_is r t a None e = refl
without_is r t a (Some kind) e = absurd cc

pub finishes : (r mid s : State) (t : ℕ) (k : PendingRequest) → is_some (request_result (request_of k.request)) ≡ false → mid ≡ with_status r t (Live Run)
    → LeadsTo (λ z a. goes z t a) t k mid s → LeadsTo (λ z a. finished_asking (with_run z t) t a (request_of k.request)) t k r s
finishes r mid s t k gives set leads f below has =
    let a : Asking = asking_of k f below in
    finished_is (with_run r t) t a k.request ∙ without_is (with_run r t) t a (request_result (request_of k.request)) gives ∙ ap (λ z. goes z t a) (sym set)
    ∙ leads f below (ap (λ z. frames_of z t) set ∙ status_frames r t (Live Run) ∙ has)

-- the instruction, which is looked at again
pub request_resumes : (w : World) (r mid s : State) (t : ℕ) (k : PendingRequest) (frames : List Frame) → mid ≡ r → frames_of r t ≡ Some frames → IsPending w r k frames
    → LeadsTo (λ z a. finished_asking (with_run z t) t a (request_of k.request)) t k mid s → resumed w r t frames ≡ Some s
request_resumes w r mid s t k frames same has p leads =
    let a : Asking = asking_of k p.frame p.below in
    bind_is (asking_in w r.memory frames) (λ x. finished_asking (with_run r t) t x.1 x.0) (request_of k.request, a) (Some s) p.asks
    (ap (λ z. finished_asking (with_run z t) t a (request_of k.request)) (sym same)
    ∙ leads p.frame p.below (ap (λ z. frames_of z t) same ∙ has ∙ ap (λ fs. Some fs) p.top))

-- a park is over
pub parked_over : (w : World) (r s q : State) (t : ℕ) (frames : List Frame) → s ≡ with_permit r t false → frames_of r t ≡ Some frames
    → ((fs : List Frame) → frames_of s t ≡ Some fs → resumed w s t fs ≡ Some q) → park_over w r t frames ≡ Some q
parked_over w r s q t frames set has over =
    ap (λ z. resumed w z t frames) (sym set) ∙ over frames (ap (λ z. frames_of z t) set ∙ permit_frames r t false ∙ has)

-- ---- a monitor is taken

first_in : (w : World) (s q : State) (t o : ℕ) (frames : List Frame) (first : Bool) → is_first_entry o frames ≡ first
    → (if first then Some (with_run s t) else resumed w s t frames) ≡ Some q → entered_with w s t o frames ≡ Some q
first_in w s q t o frames first e is = ap (λ b. if b then Some (with_run s t) else resumed w s t frames) e ∙ is

pub entry_first : (w : World) (r s q : State) (t o : ℕ) (frames : List Frame) → s ≡ with_entry r t o → is_first_entry o frames ≡ true → q ≡ with_status s t (Live Run)
    → entered_monitor w r t o frames ≡ Some q
entry_first w r s q t o frames set first runs =
    ap (λ z. entered_with w z t o frames) (sym set) ∙ first_in w s q t o frames true first (ap (λ z. Some z) (sym runs))

pub entry_later : (w : World) (r s q : State) (t o : ℕ) (frames : List Frame) → s ≡ with_entry r t o → is_first_entry o frames ≡ false → resumed w s t frames ≡ Some q
    → entered_monitor w r t o frames ≡ Some q
entry_later w r s q t o frames set first over =
    ap (λ z. entered_with w z t o frames) (sym set) ∙ first_in w s q t o frames false first over

-- an interrupt ended the wait
pub wait_thrown : (w : World) (r s q : State) (t o count : ℕ) (wake : Wake) (frames : List Frame) → s ≡ with_owner r o (Some (record { thread = t; count = count }))
    → wake ≡ Interrupted → thrown_interrupted w s t ≡ Some q → reentered w r t o count wake frames ≡ Some q
wait_thrown w r s q t o count wake frames set is thrown =
    ap (λ k. waited w (with_owner r o (Some (record { thread = t; count = count }))) t k frames) is ∙ ap (λ z. thrown_interrupted w z t) (sym set) ∙ thrown

-- ---- results

-- what holds on success leads to another fact
pub on_ok : {A E : Type 0} {X Y : Type 0} (r : Result A E) → OnOk r X → (X → Y) → OnOk r Y
on_ok (Ok x) is f = f is
on_ok (Err e) is f = tt

pub none_if : {A : Type 0} (o : Option A) → is_some o ≡ false → o ≡ None
none_if None e = refl
none_if (Some x) e = absurd cc

-- ---- the thread

-- the step of a live thread is that of its phase
pub phase_of_step : (w : World) (r : State) (t : ℕ) (x : JavaThread) (status : Status) (phase : Phase) (result : Result (Unit {0}) Fault) (a : RefState) → slice_get r.threads t ≡ Some x
    → x.thread.status ≡ status → status ≡ Live phase
    → ((frames : List Frame) → frames_of r t ≡ Some frames → Comes (phase_step w r t frames phase) result a)
    → Comes (thread_step w r t) result a
phase_of_step w r t x status phase result a at is live step =
    comes_by (thread_step w r t) (phase_step w r t x.frames phase) result a
    (bind_is (slice_get r.threads t) (λ y. status_step w r t y.frames y.thread.status) x (phase_step w r t x.frames phase) at (ap (status_step w r t x.frames) (is ∙ live)))
    (step x.frames (ap (λ o. option_map (λ (y : JavaThread). y.frames) o) at))

-- another thread has none
pub no_step : (w : World) (r : State) (t : ℕ) (x : JavaThread) (status : Status) → slice_get r.threads t ≡ Some x → x.thread.status ≡ status
    → status_step w r t x.frames status ≡ None → thread_step w r t ≡ None
no_step w r t x status at is none =
    bind_is (slice_get r.threads t) (λ y. status_step w r t y.frames y.thread.status) x None at (ap (status_step w r t x.frames) is ∙ none)

-- its frames are such as its phase asks for
pub phase_typed : (w : World) (r : State) (t : ℕ) (x : JavaThread) (status : Status) (phase : Phase) → IsTypedState w r → slice_get r.threads t ≡ Some x → x.thread.status ≡ status
    → status ≡ Live phase → (frames : List Frame) → frames_of r t ≡ Some frames → AreOfPhase w frames phase
phase_typed w r t x status phase typed at is live frames has =
    subst (λ fs. AreOfPhase w fs phase) (frames_had r t x frames at has) (subst (λ s. AreOfStatus w x.frames s) (is ∙ live) (typed.threads t x at))

-- of a phase in which it is at an instruction they keep to the typing
pub run_typed : (w : World) (r : State) (t : ℕ) (x : JavaThread) (status : Status) → IsTypedState w r → slice_get r.threads t ≡ Some x → x.thread.status ≡ status
    → is_running_status status ≡ true → HasTyped w r t
run_typed w r t x New typed at is e = absurd cc
run_typed w r t x (Live Run) typed at is e = λ frames has. phase_typed w r t x (Live Run) Run typed at is refl frames has
run_typed w r t x (Live phase) typed at is e = absurd cc
run_typed w r t x Done typed at is e = absurd cc

-- ---- a step that picks

runs_at : (x : JavaThread) (status : Status) → x.thread.status ≡ status → is_running_status status ≡ true → running_frames x.frames x.thread.status ≡ Some x.frames
runs_at x New is e = absurd cc
runs_at x (Live Run) is e = ap (running_frames x.frames) is
runs_at x (Live phase) is e = absurd cc
runs_at x Done is e = absurd cc

rests_at : (x : JavaThread) (status : Status) → x.thread.status ≡ status → is_running_status status ≡ false → running_frames x.frames x.thread.status ≡ None
rests_at x New is e = ap (running_frames x.frames) is
rests_at x (Live Run) is e = absurd cc
rests_at x (Live phase) is e = ap (running_frames x.frames) is
rests_at x Done is e = ap (running_frames x.frames) is

pub picks_none : (w : World) (r : State) (t u : ℕ) (x : JavaThread) (status : Status) → slice_get r.threads t ≡ Some x → x.thread.status ≡ status → is_running_status status ≡ false
    → picking_step w r t u ≡ None
picks_none w r t u x status at is rests =
    let none : frames_at r t ≡ None = bind_is (slice_get r.threads t) (λ y. running_frames y.frames y.thread.status) x None at (rests_at x status is rests) in
    ap (λ o. (o >>= asking_in w r.memory) >>= λ y. asked_with r t y.1 u y.0) none

pub frames_run : (r : State) (t : ℕ) (x : JavaThread) (status : Status) → slice_get r.threads t ≡ Some x → x.thread.status ≡ status → is_running_status status ≡ true
    → frames_at r t ≡ Some x.frames
frames_run r t x status at is runs = bind_is (slice_get r.threads t) (λ y. running_frames y.frames y.thread.status) x (Some x.frames) at (runs_at x status is runs)

has_frames : (r : State) (t : ℕ) (x : JavaThread) → slice_get r.threads t ≡ Some x → frames_of r t ≡ Some x.frames
has_frames r t x at = ap (λ o. option_map (λ (y : JavaThread). y.frames) o) at

pub quiet_picks_none : (w : World) (r s : State) (t u : ℕ) (x : JavaThread) (status : Status) → slice_get r.threads t ≡ Some x → x.thread.status ≡ status → is_running_status status ≡ true
    → ((frames : List Frame) → frames_of r t ≡ Some frames → HasStepped w r t frames s) → picking_step w r t u ≡ None
quiet_picks_none w r s t u x status at is runs stepped =
    ap (λ o. o >>= λ y. asked_with r t y.1 u y.0)
    (bind_is (frames_at r t) (asking_in w r.memory) x.frames None (frames_run r t x status at is runs) (stepped x.frames (has_frames r t x at)).quiet)

-- a call picks none
pub call_picks_none : (w : World) (r : State) (t u : ℕ) (x : JavaThread) (status : Status) (call : SynchronizedCall) → slice_get r.threads t ≡ Some x → x.thread.status ≡ status
    → is_running_status status ≡ true → ((frames : List Frame) → frames_of r t ≡ Some frames → IsCallPending w r call frames) → picking_step w r t u ≡ None
call_picks_none w r t u x status call at is runs pending =
    let p = pending x.frames (has_frames r t x at) in
    let asked : Request × Asking = (calls call.monitor (with_monitor p.callee call.monitor), asking_call call p.frame p.below p.next) in
    ap (λ o. o >>= λ y. asked_with r t y.1 u y.0)
    (bind_is (frames_at r t) (asking_in w r.memory) x.frames (Some asked) (frames_run r t x status at is runs) p.asks)

-- nor does a return
pub return_picks_none : (w : World) (r : State) (t u : ℕ) (x : JavaThread) (status : Status) (q : MonitorReturn) → slice_get r.threads t ≡ Some x → x.thread.status ≡ status
    → is_running_status status ≡ true → ((frames : List Frame) → frames_of r t ≡ Some frames → IsReturnPending w q frames) → picking_step w r t u ≡ None
return_picks_none w r t u x status q at is runs pending =
    let p = pending x.frames (has_frames r t x at) in
    ap (λ o. o >>= λ y. asked_with r t y.1 u y.0)
    (bind_is (frames_at r t) (asking_in w r.memory) x.frames None (frames_run r t x status at is runs) (ap (asking_in w r.memory) p.top ∙ p.returns.quiet r.memory))

pub picked : (w : World) (r s : State) (t u : ℕ) (x : JavaThread) (status : Status) (q : PendingRequest) (result : Result (Unit {0}) Fault) (a : RefState) → slice_get r.threads t ≡ Some x
    → x.thread.status ≡ status → is_running_status status ≡ true → s ≡ r → ((frames : List Frame) → frames_of r t ≡ Some frames → IsPending w r q frames)
    → Makes (λ z k. asked_with z t k u (request_of q.request)) t q s result a → Comes (picking_step w r t u) result a
picked w r s t u x status q result a at is runs same pending makes =
    let p = pending x.frames (has_frames r t x at) in
    let k : Asking = asking_of q p.frame p.below in
    comes_by (picking_step w r t u) (asked_with s t k u (request_of q.request)) result a
    (bind_is (asking_at w r t) (λ y. asked_with r t y.1 u y.0) (request_of q.request, k) (asked_with s t k u (request_of q.request))
    (bind_is (frames_at r t) (asking_in w r.memory) x.frames (Some (request_of q.request, k)) (frames_run r t x status at is runs) p.asks)
    (ap (λ z. asked_with z t k u (request_of q.request)) (sym same)))
    (makes p.frame p.below (ap (λ z. frames_of z t) same ∙ has_frames r t x at ∙ ap (λ fs. Some fs) p.top))
