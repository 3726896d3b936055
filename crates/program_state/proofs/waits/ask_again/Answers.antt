use Rattle.std.proofs.Common.{subst}
use Rattle.verify_types.specs.Environment.{Instruction}
use Rattle.thread_steps.specs.declared.progress.Progress.{Progress}
use Rattle.thread_steps.specs.Asking.{IsProgress}
use Rattle.program_state.proofs.RequestLaws.{asks_pending}
use Rattle.program_state.proofs.waits.ask_again.Goals as goal

pub returns-in-Asks-clause-pending : goal.returns-in-Asks-clause-pending
returns-in-Asks-clause-pending g c =
    let w = g.W.EventWorld.world c.args.world.now in
    let i : Instruction = record { instr = c.args.instr.now; resolution = c.args.resolution.now } in
    let a = c.args.state.now in
    let frames = c.args.mounted.now.stack.frames in
    let progress = subst (λ (x : Progress). IsProgress w i x a.memory frames c.instruction_step.new.parts c.instruction_step.new.mounted.stack.frames) c.in-Asks.is c.in_ok-instruction_step.ensures.progress in
    asks_pending w i c.in-Asks.pending a.memory frames c.requires.frame c.requires.at progress.0
