use Rattle.std.proofs.Common.{sym}
use Rattle.instruction_rows.specs.Table.{row as row_of}
use Rattle.interp_local.specs.Fetched.{instruction_of}
use Rattle.heap_instructions.specs.Operands.{operands}
use Rattle.carrier_turns.proofs.BackLaws.{back_made}
use Rattle.thread_steps.proofs.ReturnLaws.{value_taken}
use Rattle.operand_soundness.proofs.OperandLaws.{operands_found}
use Rattle.carrier_turns.proofs.local.go_back.Goals as goal

pub returns-in-Returned-clause-over : goal.returns-in-Returned-clause-over
returns-in-Returned-clause-over c =
    back_made c.args.program.now c.args.mounted.now.stack.frames c.leave.new.mounted.stack.frames c.args.fetched.now c.in-Some.returns.kind
    c.requires.ready.linked.typed c.requires.typed c.requires.next (sym c.in-Some.ensures) c.in-Returned.ensures.left

pub leave-requires-clause-operands : goal.leave-requires-clause-operands
leave-requires-clause-operands c =
    let i = instruction_of c.args.fetched.now in
    let frames = c.args.mounted.now.stack.frames in
    value_taken c.args.program.now i.resolution (row_of i.instr.op) c.in-Some.returns.kind (operands c.args.mounted.now) (sym c.in-Some.ensures)
    (operands_found c.args.program.now frames i c.requires.ready c.requires.typed c.requires.next.at)
