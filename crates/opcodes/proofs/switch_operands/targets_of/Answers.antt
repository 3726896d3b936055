use Rattle.std.proofs.Common.{ℕ, rules, to_z-of_z}
use Rattle.std.specs.Prelude.{FitsSigned}
use Rattle.std.specs.Int.{w64}
use Rattle.std.proofs.lemmas.Result.{err_from_is_err_and}
use Rattle.byte_reader.specs.Reader.{keep}
use Rattle.byte_reader.proofs.LoopLaws.{begins, goes_on, stops_at, is_done}
use Rattle.opcodes.specs.Operands.{target_at}
use Rattle.opcodes.proofs.switch_operands.targets_of.Goals as goal

pub loop-init : goal.loop-init
loop-init c = rw c.new-targets.ensures (begins (λ (state : Unit {0}) (more : ℕ). target_at c.args.pc) keep tt c.args.count c.args.bytes.now)

pub returns-in_err-target : goal.returns-in_err-target
returns-in_err-target c =
    let p = err_from_is_err_and c.from_residual.result c.from_residual.ensures.1 in
    rw (p.1, p.2) (stops_at c.args.count c.loop.counter c.in_err-target.field-0.0 c.loop-test.true c.loop.invariant c.in_err-target.ensures)

pub loop-preserved : goal.loop-preserved
loop-preserved c =
    let fits : FitsSigned w64 c.in_ok-target.target = search rules in
    rw (c.in_ok-push.ensures.ok, to_z-of_z fits) (goes_on c.args.count c.loop.counter c.in_ok-target.target c.in_ok-target.after.now c.loop-test.true c.loop.invariant c.in_ok-target.ensures)

pub returns : goal.returns
returns c = is_done c.args.count c.loop.counter c.loop-test.false c.loop.invariant
