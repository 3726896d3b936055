use Rattle.std.proofs.Common.{arith}
use Rattle.class_file.proofs.PlainLaws.{plain_on, plain_ends, plain_whole}
use Rattle.class_file.proofs.plain.are_plain.Goals as goal

pub returns-then-run-lt-LANES : goal.returns-then-run-lt-LANES
returns-then-run-lt-LANES c =
    plain_ends c.args.bytes.now c.loop-at.at c.plain_run-run.result c.args.count (omega arith) c.requires c.plain_run-run.ensures (omega arith) c.loop-at.invariant.plain

pub loop-at-preserved : goal.loop-at-preserved
loop-at-preserved c = record {
  plain = plain_on c.args.bytes.now c.loop-at.at c.plain_run-run.result (omega arith) c.plain_run-run.ensures (omega arith) c.loop-at.invariant.plain;
  near = omega arith;
}

pub returns : goal.returns
returns c = plain_whole c.args.bytes.now c.loop-at.at c.args.count (omega arith) c.loop-at.invariant.plain
