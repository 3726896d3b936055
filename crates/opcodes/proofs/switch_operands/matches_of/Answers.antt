use Rattle.std.proofs.Common.{ℤ, ℕ, rules, to_z-of_z, ◌∙◌}
use Rattle.std.specs.Prelude.{FitsSigned}
use Rattle.std.specs.Int.{w32, w64}
use Rattle.std.proofs.lemmas.Result.{err_from_is_err_and}
use Rattle.byte_reader.proofs.LoopLaws.{begins, goes_on, stops_at, is_done}
use Rattle.opcodes.specs.Operands.{match_at, next_floor, below_all}
use Rattle.opcodes.proofs.switch_operands.matches_of.Goals as goal

pub loop-init : goal.loop-init
loop-init c = rw c.new-matches.ensures (begins (λ (floor : ℤ) (more : ℕ). match_at c.args.pc floor) next_floor below_all c.args.count c.args.bytes.now)

pub returns-in_err-next : goal.returns-in_err-next
returns-in_err-next c =
    let p = err_from_is_err_and c.from_residual.result c.from_residual.ensures.1 in
    rw (p.1, p.2) (stops_at c.args.count c.loop.counter c.in_err-next.field-0.0 c.loop-test.true c.loop.invariant c.in_err-next.ensures)

pub loop-preserved : goal.loop-preserved
loop-preserved c =
    let fits : FitsSigned w64 c.from-floor.result = search rules in
    let value_fits : FitsSigned w32 c.in_ok-next.next.value = search rules in
    rw (c.in_ok-push.ensures.ok, to_z-of_z fits ∙ c.from-floor.ensures ∙ to_z-of_z value_fits)
    (goes_on c.args.count c.loop.counter c.in_ok-next.next c.in_ok-next.after.now c.loop-test.true c.loop.invariant c.in_ok-next.ensures)

pub returns : goal.returns
returns c = is_done c.args.count c.loop.counter c.loop-test.false c.loop.invariant
