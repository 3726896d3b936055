use Rattle.std.proofs.lemmas.Result.{err_from_is_err_and}
use Rattle.byte_reader.specs.Reader.{keep}
use Rattle.byte_reader.proofs.LoopLaws.{begins_behind, goes_on, stops_at, is_done}
use Rattle.stack_maps.specs.Readers.{type_at}
use Rattle.stack_maps.proofs.verification_types.more_types.Goals as goal

pub loop-init : goal.loop-init
loop-init c = begins_behind c.args.types (λ state more. type_at) keep tt c.args.count c.args.bytes.now

pub returns-in_err-one : goal.returns-in_err-one
returns-in_err-one c =
    let p = err_from_is_err_and c.from_residual.result c.from_residual.ensures.1 in
    rw (p.1, p.2) (stops_at c.args.count c.loop.counter c.in_err-one.field-0.0 c.loop-test.true c.loop.invariant c.in_err-one.ensures)

pub loop-preserved : goal.loop-preserved
loop-preserved c = rw c.in_ok-push.ensures.ok (goes_on c.args.count c.loop.counter c.in_ok-one.one c.in_ok-one.behind.now c.loop-test.true c.loop.invariant c.in_ok-one.ensures)

pub returns : goal.returns
returns c = is_done c.args.count c.loop.counter c.loop-test.false c.loop.invariant
