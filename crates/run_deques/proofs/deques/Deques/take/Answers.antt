use Rattle.std.proofs.Common.{ap, is_some, length, sym, subst, ◌∙◌, ◌<◌}
use Rattle.std.proofs.lemmas.Bool.{true≢false}
use Rattle.thread_lists.specs.Lists.{Lists}
use Rattle.run_deques.proofs.TakeLaws.{AreEmpty-next, next-empty, next-inside}
use Rattle.run_deques.proofs.deques.Deques.take.Goals as goal

pub returns-in_err-deque-clause-none : goal.returns-in_err-deque-clause-none
returns-in_err-deque-clause-none c =
    (λ _. AreEmpty-next c.args.self.now.lists c.args.c (sym c.in_err-deque.ensures), λ h. ap is_some c.from_residual.ensures)

pub take_first-requires : goal.take_first-requires
take_first-requires c =
    subst (λ (v : Lists). c.in_ok-deque.deque < length v.lists) (sym c.self.view_is)
    (next-inside c.args.self.now.lists c.args.c c.in_ok-deque.deque c.in_ok-deque.thread c.requires (sym c.in_ok-deque.ensures))

pub returns-clause-none : goal.returns-clause-none
returns-clause-none c =
    (λ e. absurd (true≢false e), λ h. ap is_some (c.in_ok-deque.ensures ∙ next-empty c.args.self.now.lists c.args.c h))
