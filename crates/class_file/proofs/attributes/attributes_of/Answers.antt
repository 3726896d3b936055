use Rattle.std.proofs.Common.{ℕ, Bool, false, arith}
use Rattle.std.proofs.lemmas.Result.{err_from_is_err_and}
use Rattle.class_file.specs.Attributes.{attribute_at, next_attribute, attributes_at}
use Rattle.byte_reader.proofs.LoopLaws.{begins, goes_on, stops_at, is_done}
use Rattle.class_file.proofs.attributes.attributes_of.Goals as goal

pub loop-init : goal.loop-init
unfolding attributes_at
loop-init g c = record {
  reads = rw c.in_ok-attributes.ensures.items (begins (λ (seen : Bool) (more : ℕ). attribute_at c.args.pool.now c.args.holder seen) next_attribute false c.args.count c.args.bytes.now);
  spent = omega arith;
}

pub returns-in_err-attribute-clause-read : goal.returns-in_err-attribute-clause-read
returns-in_err-attribute-clause-read g c =
    let p = err_from_is_err_and c.from_residual-in_err-attribute.result c.from_residual-in_err-attribute.ensures.1 in
    rw (p.1, p.2) (stops_at c.args.count c.loop.counter c.in_err-attribute.field-0.0 c.loop-test.true c.loop.invariant.reads c.in_err-attribute.ensures.read)

pub loop-preserved : goal.loop-preserved
loop-preserved g c = record {
  reads = rw (c.is_one_seen-seen.ensures, c.in_ok-push.ensures.items) (goes_on c.args.count c.loop.counter c.in_ok-attribute.attribute c.in_ok-attribute.after.now c.loop-test.true c.loop.invariant.reads c.in_ok-attribute.ensures.read);
  spent = omega (arith, c.in_ok-attribute.ensures.rest, c.loop.invariant.spent);
}

pub returns-clause-read : goal.returns-clause-read
returns-clause-read g c = rw c.from-2.ensures (is_done c.args.count c.loop.counter c.loop-test.false c.loop.invariant.reads)
