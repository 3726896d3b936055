use Rattle.std.proofs.Common.{subst}
use Rattle.instruction_rows.specs.Table.{row as row_of}
use Rattle.interp_local.specs.Fetched.{instruction_of}
use Rattle.heap_instructions.specs.Operands.{operands}
use Rattle.invocation.specs.FrameSteps.{IsEntered}
use Rattle.invocation.proofs.ReceiverLaws.{callee_given}
use Rattle.operand_soundness.proofs.OperandLaws.{operands_found}
use Rattle.carrier_turns.proofs.StaticLaws.{into_made, static_row}
use Rattle.carrier_turns.proofs.local.go_into.Goals as goal

pub returns-in-Begun-clause-over : goal.returns-in-Begun-clause-over
returns-in-Begun-clause-over c =
    into_made c.args.program.now c.args.mounted.now c.enter.new.mounted c.args.fetched.now c.in-Some.callee c.requires.ready c.requires.typed c.requires.next c.requires.calls c.in-Some.ensures.callee
    (subst (IsEntered c.in-Some.callee c.args.mounted.now c.enter.new.mounted) c.in-Begun.is c.in_ok-enter.ensures.entered)

pub enter-requires-clause-given : goal.enter-requires-clause-given
enter-requires-clause-given c =
    let w = c.args.program.now in
    let frames = c.args.mounted.now.stack.frames in
    let i = instruction_of c.args.fetched.now in
    let act = static_row (row_of i.instr.op) c.requires.calls in
    callee_given w i.resolution (row_of i.instr.op) act.index c.in-Some.callee (operands c.args.mounted.now) act.is c.in-Some.ensures.callee
    (operands_found w frames i c.requires.ready c.requires.typed c.requires.next.at)
