use Rattle.std.proofs.Common.{ℕ, arith}
use Rattle.std.proofs.lemmas.Result.{err_from_is_err_and}
use Rattle.byte_reader.specs.Reader.{keep}
use Rattle.class_file.specs.Attributes.{row_at, rows_at}
use Rattle.byte_reader.proofs.LoopLaws.{begins, goes_on, stops_at, is_done}
use Rattle.class_file.proofs.code.rows_of.Goals as goal

pub loop-init : goal.loop-init
unfolding rows_at
loop-init c = record {
  reads = rw c.in_ok-rows.ensures.items (begins (λ (state : Unit {0}) (more : ℕ). row_at) keep tt c.args.count c.args.bytes.now);
  less = omega arith;
}

pub returns-in_err-row-clause-read : goal.returns-in_err-row-clause-read
returns-in_err-row-clause-read c =
    let p = err_from_is_err_and c.from_residual-in_err-row.result c.from_residual-in_err-row.ensures.1 in
    rw (p.1, p.2) (stops_at c.args.count c.loop.counter c.in_err-row.field-0.0 c.loop-test.true c.loop.invariant.reads c.in_err-row.ensures.read)

pub loop-preserved : goal.loop-preserved
loop-preserved c = record {
  reads = rw c.in_ok-push.ensures.items (goes_on c.args.count c.loop.counter c.in_ok-row.row c.in_ok-row.after.now c.loop-test.true c.loop.invariant.reads c.in_ok-row.ensures.read);
  less = omega (arith, c.in_ok-row.ensures.size, c.loop.invariant.less);
}

pub returns-clause-read : goal.returns-clause-read
returns-clause-read c = rw c.from-2.ensures (is_done c.args.count c.loop.counter c.loop-test.false c.loop.invariant.reads)
