use Rattle.std.proofs.Common.{ℕ, arith}
use Rattle.std.proofs.lemmas.Result.{err_from_is_err_and}
use Rattle.byte_reader.specs.Reader.{keep}
use Rattle.class_file.specs.File.{member_at}
use Rattle.byte_reader.proofs.LoopLaws.{begins, goes_on, stops_at, is_done}
use Rattle.class_file.proofs.members.all_of.Goals as goal

pub loop-init : goal.loop-init
loop-init g c = record {
  reads = rw c.in_ok-members.ensures.items (begins (λ (state : Unit {0}) (more : ℕ). member_at c.args.pool.now c.args.holder) keep tt c.args.count c.args.bytes.now);
  spent = omega arith;
}

pub returns-in_err-member-clause-read : goal.returns-in_err-member-clause-read
returns-in_err-member-clause-read g c =
    let p = err_from_is_err_and c.from_residual-in_err-member.result c.from_residual-in_err-member.ensures.1 in
    rw (p.1, p.2) (stops_at c.args.count c.loop.counter c.in_err-member.field-0.0 c.loop-test.true c.loop.invariant.reads c.in_err-member.ensures.read)

pub loop-preserved : goal.loop-preserved
loop-preserved g c = record {
  reads = rw (c.in_ok-push.ensures.items) (goes_on c.args.count c.loop.counter c.in_ok-member.member c.in_ok-member.after.now c.loop-test.true c.loop.invariant.reads c.in_ok-member.ensures.read);
  spent = omega (arith, c.in_ok-member.ensures.rest, c.loop.invariant.spent);
}

pub returns-clause-read : goal.returns-clause-read
returns-clause-read g c = rw c.from-2.ensures (is_done c.args.count c.loop.counter c.loop-test.false c.loop.invariant.reads)
