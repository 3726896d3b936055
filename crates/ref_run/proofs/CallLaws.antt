-- Calls of synchronized methods, whose thread has the monitor or waits to enter it.
use Rattle.std.proofs.Common.{◌≡◌, ℕ, true, false, List, ◌∷◌, drop, Some, ap, sym, ◌∙◌}
use Rattle.std.specs.Prelude.{slice_get, slice_set, if◌then◌else◌}
use Rattle.vthread_state.specs.declared.phase.Phase.TheVariants.{Run, Entering}
use Rattle.vthread_state.specs.declared.thread.Status.TheVariants.{Live}
use Rattle.link_model.specs.World.{World}
use Rattle.items.proofs.Binds.{bind_is}
use Rattle.state_model.specs.Frames.{Frame}
use Rattle.frames.specs.Frames.{top_stack, with_stack}
use Rattle.invocation.specs.declared.synchronized_calls.SynchronizedCall.{SynchronizedCall}
use Rattle.invocation.specs.Targets.{callee_frame}
use Rattle.ref_model.specs.Asking.{Asking, goes_into, with_run}
use Rattle.ref_model.specs.LocalRows.{row}
use Rattle.ref_model.specs.Monitors.{may_take, with_entry, with_monitor}
use Rattle.ref_model.specs.Requesting.{taken_or_waits}
use Rattle.ref_model.specs.Requests.{Request, calls}
use Rattle.ref_model.specs.Resuming.{asking_in, finished_asking, resumed}
use Rattle.ref_model.specs.State.{JavaThread, State, with_status}
use Rattle.ref_model.specs.Step.{event_step, row_or_event}
use Rattle.ref_model.proofs.StateLaws.{frames_is}
use Rattle.ref_run.specs.GoingOn.{CallsTo, HasBegun, asking_call}
use Rattle.ref_run.specs.States.{frames_of}
use Rattle.ref_run.specs.Steps.{IsCallPending}
use Rattle.ref_run.proofs.GoingOnLaws.{frames_at}
use Rattle.ref_run.proofs.PhaseLaws.{status_frames}
use Rattle.ref_run.proofs.StepLaws.{event_asks}

-- ---- the frames

-- Thread t goes into the method.
pub gone_into : (r : State) (t : ℕ) (call : SynchronizedCall) (x : JavaThread) (f g : Frame) (below after : List Frame) (next : ℕ) → slice_get r.threads t ≡ Some x
    → frames_of r t ≡ Some (f ∷ below) → callee_frame call.callee f.stack ≡ Some g → HasBegun call x.frames after
    → goes_into r t (asking_call call f below next) (with_monitor g call.monitor) ≡ Some (record r { threads = slice_set r.threads t (record x { frames = after }) })
gone_into r t call x f g below after next at has callee begun =
    let top : x.frames ≡ f ∷ below = frames_at r t x (f ∷ below) at has in
    let rest : List Frame = record f { stack = drop call.callee.slots f.stack } ∷ below in
    let last : after ≡ with_monitor g call.monitor ∷ rest =
    begun g (ap (λ fs. callee_frame call.callee (top_stack fs)) top ∙ callee)
    ∙ ap (λ fs. with_monitor g call.monitor ∷ with_stack (drop call.callee.slots (top_stack fs)) fs) top in
    ap (λ (s : State). Some s) (frames_is r t x (with_monitor g call.monitor ∷ rest) at)
    ∙ ap (λ fs. Some (record r { threads = slice_set r.threads t (record x { frames = fs }) })) (sym last)

-- ---- the monitor

pub call_waits : (r s : State) (t : ℕ) (call : SynchronizedCall) → may_take r t call.monitor ≡ false → s ≡ with_status r t (Live (Entering call.monitor))
    → CallsTo (λ z a g. taken_or_waits z t call.monitor (λ q. goes_into q t a g)) t call r s
call_waits r s t call taken set f g below next has callee =
    let o : ℕ = call.monitor in
    ap (λ b. if b then goes_into (with_entry r t o) t (asking_call call f below next) (with_monitor g o) else Some (with_status r t (Live (Entering o)))) taken
    ∙ ap (λ (z : State). Some z) (sym set)

pub call_goes : (r mid s : State) (t : ℕ) (call : SynchronizedCall) → may_take r t call.monitor ≡ true → mid ≡ with_entry r t call.monitor
    → CallsTo (λ z a g. goes_into z t a g) t call mid s → CallsTo (λ z a g. taken_or_waits z t call.monitor (λ q. goes_into q t a g)) t call r s
call_goes r mid s t call may enters goes f g below next has callee =
    let o : ℕ = call.monitor in
    let a : Asking = asking_call call f below next in
    ap (λ b. if b then goes_into (with_entry r t o) t a (with_monitor g o) else Some (with_status r t (Live (Entering o)))) may
    ∙ ap (λ z. goes_into z t a (with_monitor g o)) (sym enters) ∙ goes f g below next (ap (λ z. frames_of z t) enters ∙ has) callee

-- where it waited for that
pub call_ends : (r mid s : State) (t : ℕ) (call : SynchronizedCall) → mid ≡ with_status r t (Live Run) → CallsTo (λ z a g. goes_into z t a g) t call mid s
    → CallsTo (λ z a g. goes_into (with_run z t) t a g) t call r s
call_ends r mid s t call set goes f g below next has callee =
    ap (λ z. goes_into z t (asking_call call f below next) (with_monitor g call.monitor)) (sym set)
    ∙ goes f g below next (ap (λ z. frames_of z t) set ∙ status_frames r t (Live Run) ∙ has) callee

-- ---- the instruction

-- that calls it
pub call_made : (w : World) (r mid s : State) (t : ℕ) (call : SynchronizedCall) (frames : List Frame) → mid ≡ r → frames_of r t ≡ Some frames → IsCallPending w r call frames
    → CallsTo (λ z a g. taken_or_waits z t call.monitor (λ q. goes_into q t a g)) t call mid s → row_or_event w r t frames (row w frames) ≡ Some s
call_made w r mid s t call frames same has p leads =
    let o : ℕ = call.monitor in
    let a : Asking = asking_call call p.frame p.below p.next in
    let g : Frame = with_monitor p.callee o in
    ap (row_or_event w r t frames) p.event ∙ ap (event_step w r t) p.top
    ∙ event_asks w r t p.frame p.below (calls o g, a) (ap (asking_in w r.memory) (sym p.top) ∙ p.asks)
    ∙ ap (λ z. taken_or_waits z t o (λ q. goes_into q t a g)) (sym same)
    ∙ leads p.frame p.callee p.below p.next (ap (λ z. frames_of z t) same ∙ has ∙ ap (λ fs. Some fs) p.top) p.begins

-- the same when the thread waited for the monitor
pub call_resumes : (w : World) (r mid s : State) (t : ℕ) (call : SynchronizedCall) (frames : List Frame) → mid ≡ r → frames_of r t ≡ Some frames → IsCallPending w r call frames
    → CallsTo (λ z a g. goes_into (with_run z t) t a g) t call mid s → resumed w r t frames ≡ Some s
call_resumes w r mid s t call frames same has p leads =
    let o : ℕ = call.monitor in
    let a : Asking = asking_call call p.frame p.below p.next in
    let g : Frame = with_monitor p.callee o in
    bind_is (asking_in w r.memory frames) (λ (x : Request × Asking). finished_asking (with_run r t) t x.1 x.0) (calls o g, a) (Some s) p.asks
    (ap (λ z. goes_into (with_run z t) t a g) (sym same)
    ∙ leads p.frame p.callee p.below p.next (ap (λ z. frames_of z t) same ∙ has ∙ ap (λ fs. Some fs) p.top) p.begins)
