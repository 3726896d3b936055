use Rattle.std.proofs.Common.{sym}
use Rattle.verify_types.specs.Environment.{Instruction}
use Rattle.instruction_rows.specs.Table.{row as row_of}
use Rattle.heap_instructions.specs.Operands.{operands}
use Rattle.thread_steps.proofs.ThrowLaws.{on_ok}
use Rattle.thread_steps.proofs.AskingLaws.{return_proceeds}
use Rattle.thread_steps.proofs.ReturnLaws.{kind_row, value_taken}
use Rattle.thread_steps.proofs.instructions.instruction_step.Goals as goal

pub returns-in-Some-clause-progress : goal.returns-in-Some-clause-progress
returns-in-Some-clause-progress g c =
    let w = g.W.EventWorld.world c.args.world.now in
    let i : Instruction = record { instr = c.args.instr.now; resolution = c.args.resolution.now } in
    let a = c.args.parts.now in
    let frames = c.args.mounted.now.stack.frames in
    let kind = c.in-Some.returns.kind in
    let is = kind_row (row_of i.instr.op) kind (sym c.in-Some.ensures) in
    on_ok c.return_step.result c.return_step.ensures.progress
    (return_proceeds w i kind c.return_step.new.progress a c.return_step.new.parts frames c.return_step.new.mounted.stack.frames is
    (value_taken w i.resolution (row_of i.instr.op) kind (operands c.args.mounted.now) (sym c.in-Some.ensures) c.requires.operands))

pub return_step-requires-clause-operands : goal.return_step-requires-clause-operands
return_step-requires-clause-operands g c =
    value_taken (g.W.EventWorld.world c.args.world.now) c.args.resolution.now (row_of c.args.instr.now.op) c.in-Some.returns.kind (operands c.args.mounted.now) (sym c.in-Some.ensures)
    c.requires.operands
