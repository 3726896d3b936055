use Rattle.std.proofs.Common.{None, arith}
use Rattle.continuation.specs.Continuation.{Continuation}
use Rattle.ref_run.specs.Starting.{IsFirst, IsPushed}
use Rattle.ref_run.proofs.StartLaws.{first_made, if_ok}
use Rattle.ref_run.proofs.starting.plain_frames.Goals as goal

pub returns : goal.returns
returns c =
    let code = c.args.code.now in
    if_ok (IsPushed c.args.method code c.args.object code.max_locals) (IsFirst c.args.method code c.args.object None) c.push_first.result c.push_first.ensures (λ (m : Continuation) pushed.
    first_made c.args.method code c.args.object m (omega arith) pushed)
