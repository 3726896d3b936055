use Rattle.std.proofs.Common.{ℤ, ◌+◌, ◌-◌, ◌∙◌, Bool, Option, not, ap, sym, arith, rules, to_z, of_z}
use Rattle.std.specs.Prelude.{is_some}
use Rattle.std.specs.Int.{w64}
use Rattle.std.proofs.lemmas.Int.{to_z-of_z}
use Rattle.frame_instructions.proofs.MadeRows.{reads_long}
use Rattle.interp_local.proofs.Divisors.{long_few, zero_long, long_quotient_some}
use Rattle.interp_local.proofs.staying.has_long_divisor.Goals as goal

pub overflow_sub-locals : goal.overflow_sub-locals
overflow_sub-locals c = let few = long_few c.args.slots.now c.args.locals c.args.used c.requires.operands in omega (arith, few)

pub long_at-divisor-requires : goal.long_at-divisor-requires
long_at-divisor-requires c = let few = long_few c.args.slots.now c.args.locals c.args.used c.requires.operands in omega (arith, few)

pub returns : goal.returns
returns c =
    let slots = c.args.slots.now in
    let few = long_few slots c.args.locals c.args.used c.requires.operands in
    let at = c.args.locals + c.args.used - 2 in
    let read = reads_long slots at c.long_at-divisor.result (to_z-of_z w64 c.long_at-divisor.result (search rules)) c.long_at-divisor.ensures in
    let x = to_z w64 (of_z w64 c.long_at-divisor.result) in
    c.is_some.ensures ∙ ap (λ (o : Option ℤ). is_some o) c.l_binary.ensures ∙ long_quotient_some x
    ∙ ap (λ (b : Bool). not b) (sym (zero_long slots c.args.locals c.args.used at x c.requires.operands read (omega (arith, few)) (omega (arith, few))))
