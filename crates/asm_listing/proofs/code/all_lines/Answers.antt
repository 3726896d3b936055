use Rattle.std.proofs.lemmas.Result.{err_from_is_err_and}
use Rattle.std.proofs.Common.{length}
use Rattle.asm_listing.specs.Code.{one_line, seen}
use Rattle.asm_listing.proofs.RepeatLaws.{goes_on, stops_with}
use Rattle.asm_listing.proofs.code.all_lines.Goals as goal

pub returns-in_err-rest : goal.returns-in_err-rest
returns-in_err-rest c =
    let p = err_from_is_err_and c.from_residual.result c.from_residual.ensures.1 in
    rw (p.1, p.2) (stops_with c.in_err-rest.field-0.0 (one_line c.args.pool.now (length c.args.code.now)) (seen c.loop.found) (length c.args.code.now) c.loop.counter c.loop.rest.now _ c.loop-test.true c.loop.invariant c.in_err-rest.ensures)

pub loop-preserved : goal.loop-preserved
loop-preserved c = goes_on (one_line c.args.pool.now (length c.args.code.now)) (seen c.loop.found) (seen c.one_line.new.found) (length c.args.code.now) c.loop.counter c.loop.rest.now c.in_ok-rest.rest.now _ c.loop-test.true c.loop.invariant c.in_ok-rest.ensures
