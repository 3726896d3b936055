use Rattle.std.proofs.Common.{◌≡◌, ℕ, Some, ap, subst, sym}
use Rattle.std.specs.Prelude.{IsTrue}
use Rattle.vthread_state.specs.declared.phase.Phase.TheVariants.{Run}
use Rattle.vthread_state.specs.declared.thread.Status.TheVariants.{Live}
use Rattle.vthread_state.specs.Threads.{status_at}
use Rattle.verify_types.specs.Environment.{Instruction}
use Rattle.thread_steps.specs.declared.progress.Progress.{Progress}
use Rattle.thread_steps.specs.Asking as asking
use Rattle.program_state.specs.declared.state.ProgramState.{ProgramState}
use Rattle.program_state.specs.Running.{IsProgress}
use Rattle.program_state.specs.Settling.{IsSettled}
use Rattle.program_state.proofs.RequestLaws.{first_of, pending_progress}
use Rattle.program_state.proofs.StepLaws.{has_stepped, if_ok, on_ok}
use Rattle.program_state.proofs.running.run_step.Goals as goal

pub returns-in-Stepped-clause-progress : goal.returns-in-Stepped-clause-progress
returns-in-Stepped-clause-progress g c =
    let w = g.W.EventWorld.world c.args.world.now in
    let i : Instruction = record { instr = c.args.instr.now; resolution = c.args.resolution.now } in
    let a = c.args.state.now in
    let m = c.args.mounted.now in
    let b = c.instruction_step.new.parts in
    let n = c.instruction_step.new.mounted in
    let new = c.settle_running.new.state in
    let steps = subst (λ (x : Progress). asking.IsProgress w i x a.memory m.stack.frames b n.stack.frames) c.in-Stepped.is c.in_ok-instruction_step.ensures.progress in
    let top = first_of m.stack.frames c.requires.frame in
    on_ok c.settle_running.result c.settle_running.ensures.settled (λ settled.
    subst (λ (x : Progress). IsProgress w x a m new n) (sym c.in-Stepped.is)
    (has_stepped w i a new b m n top.0 top.1 top.2 c.requires.at steps
    (subst (λ (t : ℕ). status_at a.threads t ≡ Some (Live Run) → IsSettled t (record a { memory = b }) new) c.thread-t.ensures settled)))

pub returns-in-Stepped-clause-same : goal.returns-in-Stepped-clause-same
returns-in-Stepped-clause-same g c =
    let a = c.args.state.now in
    let mid : ProgramState = record a { memory = c.instruction_step.new.parts } in
    let new = c.settle_running.new.state in
    if_ok (λ same. IsTrue same → new ≡ mid) (λ same. IsTrue same → new.threads ≡ a.threads) c.settle_running.result c.settle_running.ensures.same
    (λ same is yes. ap (λ (s : ProgramState). s.threads) (is yes))

pub returns-in_default-clause-progress : goal.returns-in_default-clause-progress
returns-in_default-clause-progress g c =
    let w = g.W.EventWorld.world c.args.world.now in
    let i : Instruction = record { instr = c.args.instr.now; resolution = c.args.resolution.now } in
    pending_progress w i c.instruction_step.new.progress c.args.state.now c.instruction_step.new.parts c.args.mounted.now c.instruction_step.new.mounted c.requires.frame c.requires.at
    c.in_default.not-Stepped c.in_ok-instruction_step.ensures.progress c.in_ok-instruction_step.ensures.stays
