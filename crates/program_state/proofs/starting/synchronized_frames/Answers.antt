use Rattle.std.proofs.Common.{true, arith, ap, ◌≡◌, ◌∙◌}
use Rattle.continuation.specs.Continuation.{Continuation}
use Rattle.program_state.specs.Starting.{IsFirst}
use Rattle.program_state.proofs.StepLaws.{if_ok}
use Rattle.program_state.proofs.StartLaws.{locked_made}
use Rattle.program_state.proofs.starting.synchronized_frames.Goals as goal

pub returns : goal.returns
returns c =
    let code = c.args.code.now in
    if_ok (λ (k : Continuation). k ≡ c.set_local.new.self) (IsFirst c.args.thread c.args.method code c.args.object true) c.freeze.result c.freeze.ensures (λ k same.
    locked_made c.args.thread c.args.method code c.args.object c.in_ok-mounted.mounted k (omega arith) c.in_ok-mounted.ensures
    (ap (λ (x : Continuation). x.thread) (same ∙ c.set_local.ensures)) (ap (λ (x : Continuation). x.stack.frames) (same ∙ c.set_local.ensures)))
