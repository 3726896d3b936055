use Rattle.std.proofs.lemmas.Result.{err_from_is_err_and}
use Rattle.asm_listing.specs.Frames.{one_frame, framed}
use Rattle.asm_listing.proofs.RepeatLaws.{goes_on, stops_with}
use Rattle.asm_listing.proofs.frames.frames_at.Goals as goal

pub returns-in_err-rest : goal.returns-in_err-rest
returns-in_err-rest c =
    let p = err_from_is_err_and c.from_residual.result c.from_residual.ensures.1 in
    rw (p.1, p.2) (stops_with c.in_err-rest.field-0.0 (one_frame c.args.pool.now) (framed c.loop.so_far) c.args.count c.loop.counter c.loop.rest.now _ c.loop-test.true c.loop.invariant c.in_err-rest.ensures)

pub loop-preserved : goal.loop-preserved
loop-preserved c = goes_on (one_frame c.args.pool.now) (framed c.loop.so_far) (framed c.one_frame.new.so_far) c.args.count c.loop.counter c.loop.rest.now c.in_ok-rest.rest.now _ c.loop-test.true c.loop.invariant c.in_ok-rest.ensures
