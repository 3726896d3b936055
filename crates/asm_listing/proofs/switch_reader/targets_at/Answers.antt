use Rattle.std.proofs.lemmas.Result.{err_from_is_err_and}
use Rattle.asm_listing.specs.Switches.{one_target}
use Rattle.asm_listing.proofs.RepeatLaws.{goes_on, stops_with}
use Rattle.asm_listing.proofs.switch_reader.targets_at.Goals as goal

pub returns-in_err-rest : goal.returns-in_err-rest
returns-in_err-rest c =
    let p = err_from_is_err_and c.from_residual-in_err-rest.result c.from_residual-in_err-rest.ensures.1 in
    rw (p.1, p.2) (stops_with c.in_err-rest.field-0.0 (one_target c.args.pc) (c.loop.targets) c.args.count c.loop.counter c.loop.rest.now _ c.loop-test.true c.loop.invariant c.in_err-rest.ensures)

pub loop-preserved : goal.loop-preserved
loop-preserved c = goes_on (one_target c.args.pc) (c.loop.targets) (c.one_target.new.targets) c.args.count c.loop.counter c.loop.rest.now c.in_ok-rest.rest.now _ c.loop-test.true c.loop.invariant c.in_ok-rest.ensures
