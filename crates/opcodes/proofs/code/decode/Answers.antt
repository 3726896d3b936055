use Rattle.std.proofs.Common.{◌≡◌, ℕ, ◌<◌, Bool, false, nat_eq, sym, ◌∙◌, arith}
use Rattle.std.proofs.lemmas.Bool.{eqb-true}
use Rattle.std.proofs.lemmas.Bool.Decides.{nat_tests}
use Rattle.opcodes.proofs.CodeLaws.{one_code, one_more, shorter, first_bad, none_else, whole_code}
use Rattle.opcodes.proofs.code.decode.Goals as goal

is_some : (n : ℕ) (empty : Bool) → empty ≡ nat_eq n 0 → empty ≡ false → 0 < n
is_some n empty e not_empty = grind (arith, nat_tests)

pub returns-in-Err-clause-only : goal.returns-in-Err-clause-only
returns-in-Err-clause-only c =
    rw c.error_at.ensures (none_else c.args.code.now c.loop-rest.instrs.items c.loop-rest.rest.now c.loop-rest.pc c.in-Err.stop c.loop-rest.invariant (is_some _ _ c.is_empty.ensures c.loop-rest-test.true) c.in-Err.ensures)

pub returns-in-Err-clause-bad : goal.returns-in-Err-clause-bad
returns-in-Err-clause-bad c =
    rw c.error_at.ensures
    (λ at why e. first_bad c.args.code.now c.loop-rest.instrs.items c.loop-rest.rest.now c.loop-rest.pc c.in-Err.stop c.loop-rest.invariant (is_some _ _ c.is_empty.ensures c.loop-rest-test.true) c.in-Err.ensures at why (cc))

pub overflow_sub-next : goal.overflow_sub-next
overflow_sub-next c = omega (arith, shorter c.loop-rest.pc c.loop-rest.rest.now c.in-Ok.found.0 c.in-Ok.found.1.now c.loop-rest.invariant.rest_fits c.in-Ok.ensures)

pub loop-rest-smaller : goal.loop-rest-smaller
loop-rest-smaller c = shorter c.loop-rest.pc c.loop-rest.rest.now c.in-Ok.found.0 c.in-Ok.found.1.now c.loop-rest.invariant.rest_fits c.in-Ok.ensures

pub loop-rest-preserved : goal.loop-rest-preserved
loop-rest-preserved c = rw c.in_ok-push.ensures.items (one_more c.args.code.now c.loop-rest.instrs.items c.loop-rest.rest.now c.loop-rest.pc c.in-Ok.found.0 c.in-Ok.found.1.now c.loop-rest.invariant c.in-Ok.ensures)

pub returns-clause-only : goal.returns-clause-only
returns-clause-only c = λ js other.
    one_code 0 c.args.code.now c.loop-rest.instrs.items js (whole_code c.args.code.now c.loop-rest.instrs.items c.loop-rest.rest.now c.loop-rest.pc c.loop-rest.invariant (eqb-true _ _ (sym c.is_empty.ensures ∙ c.loop-rest-test.false))) other
