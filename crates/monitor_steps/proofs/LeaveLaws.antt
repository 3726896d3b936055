-- Frames that are left with their monitor, by a return or an exception.
use Rattle.std.proofs.Common.{◌≡◌, ◌<◌, length, ℕ, suc, Bool, true, false, List, ◌∷◌, Option, Some, None, refl, ap, sym, subst, ◌∙◌, arith}
use Rattle.std.specs.Prelude.{if◌then◌else◌}
use Rattle.items.specs.Options.{◌>>=◌}
use Rattle.opcodes.specs.declared.op.ValueKind.{ValueKind}
use Rattle.vthread_state.specs.declared.phase.Phase.{Phase}
use Rattle.vthread_state.specs.declared.phase.Phase.TheVariants.{Run, Throwing}
use Rattle.vthread_state.specs.declared.thread.Status.TheVariants.{Live}
use Rattle.vthread_state.specs.declared.thread.Thread.{Thread}
use Rattle.vthread_state.specs.Threads.{thread_at}
use Rattle.link_model.specs.World.{World}
use Rattle.state_model.specs.Frames.{Frame}
use Rattle.continuation.specs.Continuation.{Continuation}
use Rattle.frames.specs.Frames.{top_stack}
use Rattle.heap_instructions.specs.Operands.{operands}
use Rattle.invocation.specs.FrameSteps.{returned_kinds}
use Rattle.ref_model.specs.Operands.{HasOperands}
use Rattle.monitors.specs.Monitors.{Monitors}
use Rattle.ref_model.specs.declared.exception.Exception.TheVariants as exceptions
use Rattle.ref_model.specs.Monitors.{owns, with_exit}
use Rattle.ref_model.specs.State.{State}
use Rattle.ref_model.specs.Step.{frame_returned, monitor_returned, phase_step, row_or_event}
use Rattle.ref_model.specs.LocalRows.{row}
use Rattle.ref_model.specs.Throwing.{exception_made, frame_dropped, raised, thrown_below}
use Rattle.schedule_soundness.specs.PutLaws.{OthersStay}
use Rattle.thread_steps.specs.declared.parts.Parts.{Parts}
use Rattle.thread_steps.specs.declared.progress.MonitorReturn.{MonitorReturn}
use Rattle.thread_steps.specs.declared.throwing.MonitorThrow.{MonitorThrow}
use Rattle.thread_steps.specs.Returning.{IsThread, ThrowsFrom, UnlockedDrops, UnlockedReturns, UnownedThrows}
use Rattle.thread_steps.specs.States.{memory_of}
use Rattle.program_state.specs.declared.state.ProgramState.{ProgramState}
use Rattle.program_state.specs.Monitors.{ListsMove}
use Rattle.program_state.specs.Replying.{IsRaised}
use Rattle.program_state.specs.Running.{IsReturnPending}
use Rattle.program_state.specs.Settling.{IsSettled}
use Rattle.program_state.specs.States.{IsInPhase, IsState}
use Rattle.program_state.specs.Steps.{Leads, StepsTo}
use Rattle.program_state.proofs.StateLaws.{row_there}
use Rattle.program_state.proofs.StepLaws.{stage_leads, stage_of}
use Rattle.monitor_steps.specs.declared.outcome.MonitorOutcome.{MonitorOutcome}
use Rattle.monitor_steps.specs.declared.outcome.MonitorOutcome.TheVariants as outcomes
use Rattle.monitor_steps.specs.Frames.{DropLeads, ReturnLeads, UnownedLeads}
use Rattle.monitor_steps.specs.Outcomes.{IsLeaving, others_stay}
use Rattle.monitor_steps.specs.Owners.{IsLeft, IsLeftAs}
use Rattle.monitor_steps.specs.Replies.{TellsFirst}
use Rattle.monitor_steps.proofs.AnswerLaws.{same_phase}
use Rattle.monitor_steps.proofs.ExitLaws.{LeavesSo, as_left, left_first, left_lists, left_owned, left_so, left_state, not_owned}

-- ---- the frame, where the monitor was left

pub return_leads : (w : World) (kind : Option ValueKind) (t : ℕ) (a new : ProgramState) (b : Parts) (before after : List Frame) → UnlockedReturns w kind a.memory before b after
    → IsSettled t (record a { memory = b }) new → ReturnLeads w kind t a before new after
return_leads w kind t a new b before after unlocked settled r out f below is here at top =
    stage_leads (λ s. frame_returned w s t kind f below) a new r out t Run before after is at a.memory b refl refl is.status here refl refl
    (unlocked (stage_of r t Run before at) f below top) settled

-- the thread of a stage, by its row
own_name : (a : ProgramState) (r : State) (out : ℕ → Bool) (t o name : ℕ) (row : Thread) (before : List Frame) → IsState a r out → (at : IsInPhase r t (Throwing o) before) → thread_at a.threads t ≡ Some row
    → row.name ≡ name → IsThread (stage_of r t (Throwing o) before at) t name
own_name a r out t o name row before is at there named =
    let there' = row_there a.threads r t at.thread is.rows at.at in
    let same : at.thread.thread ≡ row = cc in
    record { number = refl; named = ap (λ (x : Thread). x.name) same ∙ named }

pub drop_leads : (w : World) (o class t name : ℕ) (row : Thread) (a new : ProgramState) (b : Parts) (before after : List Frame) → thread_at a.threads t ≡ Some row → row.name ≡ name
    → UnlockedDrops w t name class (record a.memory { status = Live (Throwing o) }) before b after → IsSettled t (record a { memory = b }) new → DropLeads w o class t a before new after
drop_leads w o class t name row a new b before after there named unlocked settled r out f below is here at top =
    stage_leads (λ s. frame_dropped w s t class f below) a new r out t (Throwing o) before after is at (record a.memory { status = Live (Throwing o) }) b refl refl refl here refl refl
    (unlocked (stage_of r t (Throwing o) before at) f below (own_name a r out t o name row before is at there named) top) settled

pub unowned_leads : (w : World) (o t name : ℕ) (row : Thread) (a new : ProgramState) (b : Parts) (before after : List Frame) → thread_at a.threads t ≡ Some row → row.name ≡ name
    → UnownedThrows w t name (record a.memory { status = Live (Throwing o) }) before b after → IsSettled t (record a { memory = b }) new → UnownedLeads w o t a before new after
unowned_leads w o t name row a new b before after there named unowned settled r out f below is here at top =
    stage_leads (λ s. exception_made w s.memory exceptions.IllegalMonitorStateException >>= thrown_below w s t f below) a new r out t (Throwing o) before after is at
    (record a.memory { status = Live (Throwing o) }) b refl refl refl here refl refl
    (unowned (stage_of r t (Throwing o) before at) f below (own_name a r out t o name row before is at there named) top) settled

-- ---- the step, of the owner

exit_steps : (w : World) (phase : Phase) (t o : ℕ) (outcome : MonitorOutcome) (old new : ProgramState) (m : Monitors) (before after : List Frame) (act : State → Option State) → IsLeftAs t o outcome old.monitors m
    → ((r : State) (out : ℕ → Bool) → IsState old r out → owns r t o ≡ true → phase_step w r t before phase ≡ act (with_exit r o))
    → ((s : State) (out : ℕ → Bool) → IsState (record old { monitors = m }) s out → out t ≡ true → IsInPhase s t phase before → Leads act (OthersStay t) new t after s out)
    → StepsTo w (LeavesSo t o outcome) phase t old before new after
exit_steps w phase t o outcome old new m before after act left step leads r out is here at =
    let has = as_left t o outcome old.monitors m left in
    let l = leads (with_exit r o) out (left_state old m t o r out is has) here (same_phase r (with_exit r o) t phase before refl at) in
    record {
      next = l.next;
      makes = step r out is (left_owned old m t o r out is has) ∙ l.makes;
      is = l.is;
      has = l.has;
      others = left_so old m t o outcome r out is left l.next l.others;
    }

exit_outcome : (w : World) (phase : Phase) (t o : ℕ) (outcome : MonitorOutcome) (old new : ProgramState) (m : Monitors) (before after : List Frame) → IsLeftAs t o outcome old.monitors m
    → new.monitors ≡ m → StepsTo w (LeavesSo t o outcome) phase t old before new after → IsLeaving w outcome phase t old before new after
exit_outcome w phase t o outcomes.Done old new m before after left same steps = steps
exit_outcome w phase t o (outcomes.Frees first) old new m before after left same steps =
    record { monitor = o; steps = steps; first_is = subst (λ n. TellsFirst o (outcomes.Frees first) old.monitors n) (sym same) (left_first t o (outcomes.Frees first) old.monitors m left) }
exit_outcome w phase t o (outcomes.Notifies u) old new m before after left same steps = absurd left

pub exit_moves : (t o : ℕ) (left : Option MonitorOutcome) (old : Monitors) (new : ProgramState) (m : Monitors) → IsLeft t o left old m → new.monitors ≡ m → ListsMove old new.monitors
exit_moves t o left old new m is same = subst (ListsMove old) (sym same) (left_lists t o left old m is)

-- ---- a return

return_step : (w : World) (q : MonitorReturn) (before : List Frame) (r : State) (t : ℕ) (p : IsReturnPending w q before) → phase_step w r t before Run ≡ monitor_returned w r t q.kind p.frame p.below q.monitor
return_step w q before r t p = ap (λ fs. row_or_event w r t fs (row w fs)) p.top ∙ p.returns.step r t

pub return_made : (w : World) (q : MonitorReturn) (t : ℕ) (outcome : MonitorOutcome) (old new : ProgramState) (m : Monitors) (before after : List Frame) → IsReturnPending w q before
    → IsLeft t q.monitor (Some outcome) old.monitors m → ReturnLeads w q.kind t (record old { monitors = m }) before new after → new.monitors ≡ m → IsLeaving w outcome Run t old before new after
return_made w q t outcome old new m before after p left leads same =
    let o : ℕ = q.monitor in
    exit_outcome w Run t o outcome old new m before after left same
    (exit_steps w Run t o outcome old new m before after (λ s. frame_returned w s t q.kind p.frame p.below) left
    (λ r out is owned. return_step w q before r t p
    ∙ ap (λ b. if b then frame_returned w (with_exit r o) t q.kind p.frame p.below else raised w r t exceptions.IllegalMonitorStateException) owned)
    (λ s out is here at. leads s out p.frame p.below is here at p.top))

pub return_throws : (w : World) (q : MonitorReturn) (t : ℕ) (old new : ProgramState) (m : Monitors) (before : List Frame) → IsReturnPending w q before → IsLeft t q.monitor None old.monitors m
    → IsRaised w exceptions.IllegalMonitorStateException t (record old { monitors = m }) new → IsLeaving w outcomes.Done Run t old before new before
return_throws w q t old new m before p left raises r out is here at =
    let o : ℕ = q.monitor in
    let l = raises r out before (subst (λ (n : Monitors). IsState (record old { monitors = n }) r out) (sym left.1) is) here at in
    record {
      next = l.next;
      makes = return_step w q before r t p
          ∙ ap (λ b. if b then frame_returned w (with_exit r o) t q.kind p.frame p.below else raised w r t exceptions.IllegalMonitorStateException)
          (not_owned old t o false r out is left.0) ∙ l.makes;
      is = l.is;
      has = l.has;
      others = others_stay l.others;
    }

-- ---- an exception on its way

pub throw_made : (w : World) (q : MonitorThrow) (o t : ℕ) (outcome : MonitorOutcome) (old new : ProgramState) (m : Monitors) (before after : List Frame) (f : Frame) (below : List Frame) → before ≡ f ∷ below
    → ThrowsFrom w q o (memory_of old.memory) before → IsLeft t q.monitor (Some outcome) old.monitors m → DropLeads w o q.class t (record old { monitors = m }) before new after → new.monitors ≡ m
    → IsLeaving w outcome (Throwing o) t old before new after
throw_made w q o t outcome old new m before after f below top throws left leads same =
    let k : ℕ = q.monitor in
    exit_outcome w (Throwing o) t k outcome old new m before after left same
    (exit_steps w (Throwing o) t k outcome old new m before after (λ s. frame_dropped w s t q.class f below) left
    (λ r out is owned. throws r t f below (sym is.memory) top
    ∙ ap (λ b. if b then frame_dropped w (with_exit r k) t q.class f below
    else (exception_made w r.memory exceptions.IllegalMonitorStateException >>= thrown_below w r t f below)) owned)
    (λ s out is here at. leads s out f below is here at top))

pub throw_unowned : (w : World) (q : MonitorThrow) (o t : ℕ) (old new : ProgramState) (m : Monitors) (before after : List Frame) (f : Frame) (below : List Frame) → before ≡ f ∷ below
    → ThrowsFrom w q o (memory_of old.memory) before → IsLeft t q.monitor None old.monitors m → UnownedLeads w o t (record old { monitors = m }) before new after
    → IsLeaving w outcomes.Done (Throwing o) t old before new after
throw_unowned w q o t old new m before after f below top throws left leads r out is here at =
    let k : ℕ = q.monitor in
    let l = leads r out f below (subst (λ (n : Monitors). IsState (record old { monitors = n }) r out) (sym left.1) is) here at top in
    record {
      next = l.next;
      makes = throws r t f below (sym is.memory) top
          ∙ ap (λ b. if b then frame_dropped w (with_exit r k) t q.class f below
          else (exception_made w r.memory exceptions.IllegalMonitorStateException >>= thrown_below w r t f below)) (not_owned old t k false r out is left.0) ∙ l.makes;
      is = l.is;
      has = l.has;
      others = others_stay l.others;
    }

-- ---- the frame that is left

pub first_frame : (frames : List Frame) (f : Frame) (below : List Frame) → frames ≡ f ∷ below → 0 < length frames
first_frame frames f below top = subst (λ fs. 0 < length fs) (sym top) (positive (length below))
  where
    positive : (n : ℕ) → 0 < suc n
    positive n = omega arith

pub return_operands : (w : World) (q : MonitorReturn) (m : Continuation) → IsReturnPending w q m.stack.frames → HasOperands (returned_kinds q.kind) 0 (operands m)
return_operands w q m p = subst (λ fs. HasOperands (returned_kinds q.kind) 0 (top_stack fs)) (sym p.top) p.returns.operands
