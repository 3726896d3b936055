use Rattle.std.proofs.Common.{false, arith, ◌≡◌, sym, subst}
use Rattle.continuation.specs.Continuation.{Continuation}
use Rattle.program_state.specs.Starting.{IsFirst}
use Rattle.program_state.proofs.StepLaws.{if_ok}
use Rattle.program_state.proofs.StartLaws.{first_made}
use Rattle.program_state.proofs.starting.first_frames.Goals as goal

pub returns : goal.returns
returns c =
    let code = c.args.code.now in
    let m = c.in_ok-push_first.field-0 in
    if_ok (λ (k : Continuation). k ≡ m) (IsFirst c.args.thread c.args.method code c.args.object false) c.freeze.result c.freeze.ensures (λ k same.
    subst (IsFirst c.args.thread c.args.method code c.args.object false) (sym same)
    (first_made c.args.thread c.args.method code c.args.object m (omega arith) c.in_ok-push_first.ensures))
