use Rattle.std.proofs.Common.{◌+◌, arith, refl, ap, sym, ◌∙◌, rules, to_z, of_z, to_z-of_z}
use Rattle.std.specs.Prelude.{FitsSigned, Some}
use Rattle.std.specs.Int.{w64}
use Rattle.opcodes.specs.declared.op.ValueKind.TheVariants as kinds
use Rattle.heap_instructions.specs.Operands.{operands}
use Rattle.heap_instructions.proofs.OperandLaws.{operand_is, operand_within, slot_holds}
use Rattle.heap_instructions.proofs.operands.long_operand.Goals as goal

pub operand-requires : goal.operand-requires
operand-requires c =
    let within = operand_within kinds.Long c.args.depth (operands c.args.mounted.now) c.requires in
    omega arith

pub long_in-requires : goal.long_in-requires
long_in-requires c = slot_holds kinds.Long c.args.depth (c.args.depth + 1) (operands c.args.mounted.now) c.operand.result refl c.operand.ensures c.requires

pub returns-clause-read : goal.returns-clause-read
returns-clause-read c =
    let fits : FitsSigned w64 c.long_in.result = search rules in
    let v = to_z w64 (of_z w64 c.long_in.result) in
    operand_is kinds.Long v c.args.depth (c.args.depth + 1) (operands c.args.mounted.now) c.operand.result refl c.operand.ensures (c.long_in.ensures ∙ ap Some (sym (to_z-of_z fits)))

pub returns-clause-within : goal.returns-clause-within
returns-clause-within c = operand_within kinds.Long c.args.depth (operands c.args.mounted.now) c.requires
