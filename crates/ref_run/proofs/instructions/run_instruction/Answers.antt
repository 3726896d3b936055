use Rattle.std.proofs.Common.{refl}
use Rattle.interp_local.specs.Fetched.{instruction_of}
use Rattle.operand_soundness.proofs.OperandLaws.{natives_found, operands_found}
use Rattle.ref_run.proofs.StepLaws.{fetched_at, progress_made, taken_frames}
use Rattle.ref_run.proofs.instructions.run_instruction.Goals as goal

pub instruction_step-requires-clause-operands : goal.instruction_step-requires-clause-operands
instruction_step-requires-clause-operands c =
    let frames = c.in_ok-mounted.mounted.stack.frames in
    let typed = c.requires.typed frames (taken_frames c.args.state.now c.take_frames.new.state c.args.t frames c.in_ok-mounted.ensures) in
    operands_found c.args.program.now frames (instruction_of c.in_ok-next.next) c.requires.ready typed c.in_ok-next.ensures.at

pub instruction_step-requires-clause-natives : goal.instruction_step-requires-clause-natives
instruction_step-requires-clause-natives c =
    let m = c.in_ok-mounted.mounted in
    let typed = c.requires.typed m.stack.frames (taken_frames c.args.state.now c.take_frames.new.state c.args.t m.stack.frames c.in_ok-mounted.ensures) in
    natives_found c.args.program.now c.take_frames.new.state.memory m m.stack.frames (instruction_of c.in_ok-next.next) refl c.requires.ready typed c.in_ok-next.ensures.at

pub returns-clause-progress : goal.returns-clause-progress
returns-clause-progress c =
    let w = c.args.program.now in
    let i = instruction_of c.in_ok-next.next in
    let frames = c.in_ok-mounted.mounted.stack.frames in
    progress_made w i c.args.state.now c.take_frames.new.state c.put_frames.new.state c.args.t frames c.instruction_step.new.mounted.stack.frames c.instruction_step.new.parts
    c.instruction_step.new.progress c.in_ok-mounted.ensures c.put_frames.ensures (fetched_at w frames i c.in_ok-next.ensures.at) c.in_ok-instruction_step.ensures.progress
