use Rattle.std.proofs.Common.{ℤ, ◌+◌, ◌-◌, ◌∙◌, Bool, Option, not, ap, sym, arith, rules, to_z, of_z}
use Rattle.std.specs.Prelude.{is_some}
use Rattle.std.specs.Int.{w32}
use Rattle.std.proofs.lemmas.Int.{to_z-of_z}
use Rattle.frame_instructions.proofs.MadeRows.{reads_int}
use Rattle.interp_local.proofs.Divisors.{int_few, zero_int, int_quotient_some}
use Rattle.interp_local.proofs.staying.has_int_divisor.Goals as goal

pub overflow_sub-locals : goal.overflow_sub-locals
overflow_sub-locals c = let few = int_few c.args.slots.now c.args.locals c.args.used c.requires.operands in omega (arith, few)

pub int_at-divisor-requires : goal.int_at-divisor-requires
int_at-divisor-requires c = let few = int_few c.args.slots.now c.args.locals c.args.used c.requires.operands in omega (arith, few)

pub returns : goal.returns
returns c =
    let slots = c.args.slots.now in
    let few = int_few slots c.args.locals c.args.used c.requires.operands in
    let at = c.args.locals + c.args.used - 1 in
    let read = reads_int slots at c.int_at-divisor.result (to_z-of_z w32 c.int_at-divisor.result (search rules)) c.int_at-divisor.ensures in
    let x = to_z w32 (of_z w32 c.int_at-divisor.result) in
    c.is_some.ensures ∙ ap (λ (o : Option ℤ). is_some o) c.i_binary.ensures ∙ int_quotient_some x
    ∙ ap (λ (b : Bool). not b) (sym (zero_int slots c.args.locals c.args.used at x c.requires.operands read (omega (arith, few)) (omega (arith, few))))
