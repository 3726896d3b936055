use Rattle.std.proofs.Common.{ℤ, rules, subst, sym, to_z-of_z}
use Rattle.std.specs.Prelude.{FitsSigned}
use Rattle.std.specs.Int.{w32}
use Rattle.jvm_words.specs.declared.operation.IntOp.{IntOp}
use Rattle.jvm_words.specs.declared.operation.IntOp.TheVariants as ops
use Rattle.jvm_words.specs.Words.{is_zero}
use Rattle.heap_instructions.specs.Dispatch.{DividesInts, IsDivided}
use Rattle.heap_instructions.proofs.DivisionLaws.{ints_divided, ints_not_divided, no_result}
use Rattle.heap_instructions.proofs.divisions.divide_ints.Goals as goal

pub returns-in-Div : goal.returns-in-Div
returns-in-Div c =
    let n = c.int_operand in
    let o = c.divide_by_int in
    let fits : FitsSigned w32 n.result = search rules in
    let divided = subst (λ (b : ℤ). IsDivided b o.result) (to_z-of_z fits) o.ensures in
    subst (λ (op : IntOp). DividesInts op c.args.mounted.now o.result) (sym c.in-Div.is)
    (ints_divided ops.Div c.args.mounted.now n.result o.result (λ b a. no_result (is_zero b) _) n.ensures.read c.requires.1.0 divided)

pub returns-in-Rem : goal.returns-in-Rem
returns-in-Rem c =
    let n = c.int_operand-in-Rem in
    let o = c.divide_by_int-in-Rem in
    let fits : FitsSigned w32 n.result = search rules in
    let divided = subst (λ (b : ℤ). IsDivided b o.result) (to_z-of_z fits) o.ensures in
    subst (λ (op : IntOp). DividesInts op c.args.mounted.now o.result) (sym c.in-Rem.is)
    (ints_divided ops.Rem c.args.mounted.now n.result o.result (λ b a. no_result (is_zero b) _) n.ensures.read c.requires.1.0 divided)

pub returns-in_default : goal.returns-in_default
returns-in_default c = ints_not_divided c.args.op c.args.mounted.now c.in_default.not-Div c.in_default.not-Rem
