use Rattle.std.proofs.Common.{ℕ, ap, ◌∙◌}
use Rattle.continuation.specs.Continuation.{Continuation}
use Rattle.thread_steps.specs.Returning.{status_left}
use Rattle.thread_steps.proofs.ReturnLaws.{root_is_left}
use Rattle.thread_steps.proofs.returns.leave_root.Goals as goal

pub returns : goal.returns
returns c =
    root_is_left c.args.parts.now c.args.mounted.now.stack.frames c.pop_frame.new.self.stack.frames c.status_over-parts.result
    (ap (λ (m : Continuation). m.stack.frames) c.pop_frame.ensures) (c.status_over-parts.ensures ∙ ap (λ (n : ℕ). status_left n c.args.parts.now.status) c.depth.ensures.depth)
