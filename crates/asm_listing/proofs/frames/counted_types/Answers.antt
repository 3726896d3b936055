use Rattle.std.proofs.lemmas.Result.{err_from_is_err_and}
use Rattle.asm_listing.specs.Frames.{one_type, seen_types}
use Rattle.asm_listing.proofs.RepeatLaws.{goes_on, stops_with}
use Rattle.asm_listing.proofs.frames.counted_types.Goals as goal

pub returns-in_err-rest : goal.returns-in_err-rest
returns-in_err-rest c =
    let p = err_from_is_err_and c.from_residual.result c.from_residual.ensures.1 in
    rw (p.1, p.2) (stops_with c.in_err-rest.field-0.0 (one_type c.args.pool.now) (seen_types c.loop.types) c.args.count c.loop.counter c.loop.rest.now _ c.loop-test.true c.loop.invariant c.in_err-rest.ensures)

pub loop-preserved : goal.loop-preserved
loop-preserved c = goes_on (one_type c.args.pool.now) (seen_types c.loop.types) (seen_types c.one_type.new.types) c.args.count c.loop.counter c.loop.rest.now c.in_ok-rest.rest.now _ c.loop-test.true c.loop.invariant c.in_ok-rest.ensures
