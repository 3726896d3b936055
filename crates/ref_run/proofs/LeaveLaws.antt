-- Frames that are left with their monitor, by a return or an exception.
use Rattle.std.proofs.Common.{◌≡◌, ℕ, true, false, List, ◌∷◌, Option, Some, ap, sym, subst, ◌∙◌}
use Rattle.std.specs.Prelude.{slice_get, if◌then◌else◌}
use Rattle.opcodes.specs.declared.op.ValueKind.{ValueKind}
use Rattle.link_model.specs.World.{World}
use Rattle.state_model.specs.Frames.{Frame}
use Rattle.frames.specs.Frames.{top_stack}
use Rattle.invocation.specs.FrameSteps.{returned_kinds}
use Rattle.ref_model.specs.declared.exception.Exception.TheVariants as exceptions
use Rattle.ref_model.specs.LocalRows.{row}
use Rattle.ref_model.specs.Monitors.{owns, with_exit}
use Rattle.ref_model.specs.Operands.{HasOperands}
use Rattle.ref_model.specs.State.{JavaThread, State}
use Rattle.ref_model.specs.Step.{frame_returned, monitor_returned, row_or_event}
use Rattle.ref_model.specs.Throwing.{frame_dropped, frame_with_monitor_left, raised, throwing_step}
use Rattle.thread_steps.specs.declared.parts.Parts.{Parts}
use Rattle.thread_steps.specs.declared.progress.MonitorReturn.{MonitorReturn}
use Rattle.thread_steps.specs.declared.throwing.MonitorThrow.{MonitorThrow}
use Rattle.thread_steps.specs.declared.throwing.Thrown.{Thrown}
use Rattle.thread_steps.specs.declared.throwing.Thrown.TheVariants.{Stepped, Holds}
use Rattle.thread_steps.specs.Returning.{ThrowProceeds, UnlockedDrops, UnlockedReturns, UnownedThrows}
use Rattle.thread_steps.specs.States.{Stage, memory_of}
use Rattle.ref_run.specs.declared.state.RefState.{RefState}
use Rattle.ref_run.specs.GoingOn.{LeavesTo}
use Rattle.ref_run.specs.States.{frames_of, state_of}
use Rattle.ref_run.specs.Steps.{HasResult, IsHeld, IsReturnPending, IsThrown, left_unowned}
use Rattle.ref_run.specs.Taking.{IsPut, IsTaken}
use Rattle.ref_run.proofs.StageLaws.{stage_of}
use Rattle.ref_run.proofs.StepLaws.{first_of, made_on_stage, own_name, same_frames, taken_frames, throwing_made, unsettled}

-- ---- the frame, where the monitor was left

pub frame_returns : (w : World) (a mid new : RefState) (t : ℕ) (kind : Option ValueKind) (frames after : List Frame) (b : Parts) (taken : IsTaken t a frames mid)
    → IsPut t (record mid { memory = b }) after new → UnlockedReturns w kind mid.memory frames b after → LeavesTo (λ r f below. frame_returned w r t kind f below) t (state_of a) (state_of new)
frame_returns w a mid new t kind frames after b taken put returns f below has =
    let stage : Stage = stage_of (state_of a) t taken.thread taken.at in
    made_on_stage (λ r. frame_returned w r t kind f below) a mid new t frames after b taken put
    (returns stage f below (sym (same_frames (state_of a) t frames (f ∷ below) (taken_frames a mid t frames taken) has)))

pub frame_drops : (w : World) (a mid new : RefState) (t name class : ℕ) (frames after : List Frame) (b : Parts) (x : JavaThread) (taken : IsTaken t a frames mid)
    → slice_get a.threads.items t ≡ Some x → x.thread.name ≡ name → IsPut t (record mid { memory = b }) after new → UnlockedDrops w t name class mid.memory frames b after
    → LeavesTo (λ r f below. frame_dropped w r t class f below) t (state_of a) (state_of new)
frame_drops w a mid new t name class frames after b x taken at named put drops f below has =
    let stage : Stage = stage_of (state_of a) t taken.thread taken.at in
    made_on_stage (λ r. frame_dropped w r t class f below) a mid new t frames after b taken put
    (drops stage f below (own_name a mid t name frames x taken at named) (sym (same_frames (state_of a) t frames (f ∷ below) (taken_frames a mid t frames taken) has)))

-- the same where the thread doesn't own it
pub frame_unowned : (w : World) (a mid new : RefState) (t name : ℕ) (frames after : List Frame) (b : Parts) (x : JavaThread) (taken : IsTaken t a frames mid) → slice_get a.threads.items t ≡ Some x
    → x.thread.name ≡ name → IsPut t (record mid { memory = b }) after new → UnownedThrows w t name mid.memory frames b after
    → LeavesTo (λ r f below. left_unowned w r t f below) t (state_of a) (state_of new)
frame_unowned w a mid new t name frames after b x taken at named put throws f below has =
    let stage : Stage = stage_of (state_of a) t taken.thread taken.at in
    made_on_stage (λ r. left_unowned w r t f below) a mid new t frames after b taken put
    (throws stage f below (own_name a mid t name frames x taken at named) (sym (same_frames (state_of a) t frames (f ∷ below) (taken_frames a mid t frames taken) has)))

-- ---- a return

-- what it gives back is there, in a state with the same threads
pub result_there : (w : World) (r s : State) (t : ℕ) (q : MonitorReturn) → s ≡ r → ((frames : List Frame) → frames_of r t ≡ Some frames → IsReturnPending w q frames) → HasResult q.kind s t
result_there w r s t q same pending frames has =
    let p = pending frames (ap (λ z. frames_of z t) (sym same) ∙ has) in
    subst (λ fs. HasOperands (returned_kinds q.kind) 0 (top_stack fs)) (sym p.top) p.returns.operands

pub result_stays : (r s : State) (t o : ℕ) (kind : Option ValueKind) → s ≡ with_exit r o → HasResult kind r t → HasResult kind s t
result_stays r s t o kind left there frames has = there frames (ap (λ z. frames_of z t) (sym left) ∙ has)

pub return_owned : (w : World) (r mid s : State) (t : ℕ) (q : MonitorReturn) → owns r t q.monitor ≡ true → mid ≡ with_exit r q.monitor
    → LeavesTo (λ z f below. frame_returned w z t q.kind f below) t mid s → LeavesTo (λ z f below. monitor_returned w z t q.kind f below q.monitor) t r s
return_owned w r mid s t q owned left returns f below has =
    let o : ℕ = q.monitor in
    ap (λ b. if b then frame_returned w (with_exit r o) t q.kind f below else raised w r t exceptions.IllegalMonitorStateException) owned
    ∙ ap (λ z. frame_returned w z t q.kind f below) (sym left) ∙ returns f below (ap (λ z. frames_of z t) left ∙ has)

pub return_unowned : (w : World) (r s : State) (t : ℕ) (q : MonitorReturn) → owns r t q.monitor ≡ false → raised w r t exceptions.IllegalMonitorStateException ≡ Some s
    → LeavesTo (λ z f below. monitor_returned w z t q.kind f below q.monitor) t r s
return_unowned w r s t q unowned raises f below has =
    let o : ℕ = q.monitor in
    ap (λ b. if b then frame_returned w (with_exit r o) t q.kind f below else raised w r t exceptions.IllegalMonitorStateException) unowned ∙ raises

pub return_made : (w : World) (r mid s : State) (t : ℕ) (q : MonitorReturn) (frames : List Frame) → mid ≡ r → frames_of r t ≡ Some frames → IsReturnPending w q frames
    → LeavesTo (λ z f below. monitor_returned w z t q.kind f below q.monitor) t mid s → row_or_event w r t frames (row w frames) ≡ Some s
return_made w r mid s t q frames same has p leads =
    ap (λ fs. row_or_event w r t fs (row w fs)) p.top ∙ p.returns.step r t ∙ ap (λ z. monitor_returned w z t q.kind p.frame p.below q.monitor) (sym same)
    ∙ leads p.frame p.below (ap (λ z. frames_of z t) same ∙ has ∙ ap (λ fs. Some fs) p.top)

-- ---- an object that is thrown

pub throw_owned : (w : World) (r mid s : State) (t : ℕ) (q : MonitorThrow) → owns r t q.monitor ≡ true → mid ≡ with_exit r q.monitor
    → LeavesTo (λ z f below. frame_dropped w z t q.class f below) t mid s → LeavesTo (λ z f below. frame_with_monitor_left w z t q.class f below q.monitor) t r s
throw_owned w r mid s t q owned left drops f below has =
    let o : ℕ = q.monitor in
    ap (λ b. if b then frame_dropped w (with_exit r o) t q.class f below
    else left_unowned w r t f below) owned
    ∙ ap (λ z. frame_dropped w z t q.class f below) (sym left) ∙ drops f below (ap (λ z. frames_of z t) left ∙ has)

pub throw_unowned : (w : World) (r s : State) (t : ℕ) (q : MonitorThrow) → owns r t q.monitor ≡ false
    → LeavesTo (λ z f below. left_unowned w z t f below) t r s
    → LeavesTo (λ z f below. frame_with_monitor_left w z t q.class f below q.monitor) t r s
throw_unowned w r s t q unowned throws f below has =
    let o : ℕ = q.monitor in
    ap (λ b. if b then frame_dropped w (with_exit r o) t q.class f below
    else left_unowned w r t f below) unowned ∙ throws f below has

-- what became of the step
pub thrown_made : (w : World) (a mid new : RefState) (t name o : ℕ) (frames after : List Frame) (b : Parts) (x : JavaThread) (thrown : Thrown) → IsTaken t a frames mid
    → slice_get a.threads.items t ≡ Some x → x.thread.name ≡ name → IsPut t (record mid { memory = b }) after new
    → ThrowProceeds w t name o thrown mid.memory frames b after → IsThrown w (state_of a) t o thrown (state_of new)
thrown_made w a mid new t name o frames after b x Stepped taken at named put steps = throwing_made w a mid new t name o frames after b x taken at named put steps
thrown_made w a mid new t name o frames after b x (Holds q) taken at named put holds =
    let top = first_of frames taken.some in
    let memory : (state_of a).memory ≡ memory_of mid.memory = ap memory_of (sym taken.memory) in (
      λ others has. subst (λ (fs : List Frame). IsHeld w (state_of a) t o q fs) (sym (same_frames (state_of a) t frames others (taken_frames a mid t frames taken) has))
          (record { frame = top.0; below = top.1; top = top.2; throws = holds.0 (state_of a) t top.0 top.1 memory top.2 }),
      unsettled a mid new t frames after b taken put holds.1 holds.2,
    )

pub throw_left : (w : World) (r mid s : State) (t o : ℕ) (q : MonitorThrow) (frames : List Frame) → mid ≡ r → frames_of r t ≡ Some frames → IsHeld w r t o q frames
    → LeavesTo (λ z f below. frame_with_monitor_left w z t q.class f below q.monitor) t mid s → throwing_step w r t o frames ≡ Some s
throw_left w r mid s t o q frames same has p leads =
    p.throws ∙ ap (λ z. frame_with_monitor_left w z t q.class p.frame p.below q.monitor) (sym same)
    ∙ leads p.frame p.below (ap (λ z. frames_of z t) same ∙ has ∙ ap (λ fs. Some fs) p.top)
