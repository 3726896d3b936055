use Rattle.std.proofs.Common.{ℕ, Bool, false, arith}
use Rattle.std.proofs.lemmas.Result.{err_from_is_err_and}
use Rattle.class_file.specs.Attributes.{extra_at, next_extra, extras_at}
use Rattle.byte_reader.proofs.LoopLaws.{begins, goes_on, stops_at, is_done}
use Rattle.class_file.proofs.code.extras_of.Goals as goal

pub loop-init : goal.loop-init
unfolding extras_at
loop-init g c = record {
  reads = rw c.in_ok-extras.ensures.items (begins (λ (seen : Bool) (more : ℕ). extra_at c.args.pool.now seen) next_extra false c.args.count c.args.bytes.now);
  spent = omega arith;
}

pub returns-in_err-extra-clause-read : goal.returns-in_err-extra-clause-read
returns-in_err-extra-clause-read g c =
    let p = err_from_is_err_and c.from_residual-in_err-extra.result c.from_residual-in_err-extra.ensures.1 in
    rw (p.1, p.2) (stops_at c.args.count c.loop.counter c.in_err-extra.field-0.0 c.loop-test.true c.loop.invariant.reads c.in_err-extra.ensures.read)

pub loop-preserved : goal.loop-preserved
loop-preserved g c = record {
  reads = rw (c.is_map_seen-seen.ensures, c.in_ok-push.ensures.items) (goes_on c.args.count c.loop.counter c.in_ok-extra.extra c.in_ok-extra.after.now c.loop-test.true c.loop.invariant.reads c.in_ok-extra.ensures.read);
  spent = omega (arith, c.in_ok-extra.ensures.rest, c.loop.invariant.spent);
}

pub returns-clause-read : goal.returns-clause-read
returns-clause-read g c = rw c.from-2.ensures (is_done c.args.count c.loop.counter c.loop-test.false c.loop.invariant.reads)
