use Rattle.std.proofs.Common.{ap, arith}
use Rattle.continuation.specs.Continuation.{Continuation}
use Rattle.ref_run.proofs.StartLaws.{guarded_made}
use Rattle.ref_run.proofs.starting.guarded_frames.Goals as goal

pub returns : goal.returns
returns c =
    guarded_made c.args.method c.args.code.now c.args.object c.args.monitor c.in_ok-mounted.mounted c.set_local.new.self (omega arith) c.in_ok-mounted.ensures
    (ap (λ (x : Continuation). x.stack.frames) c.set_local.ensures)
