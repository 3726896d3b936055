use Rattle.std.proofs.Common.{ap, ◌∙◌}
use Rattle.std.specs.Prelude.{ℕ, nat_lt}
use Rattle.vthread_state.specs.Threads.{Threads, goes_on}
use Rattle.vthread_state.proofs.GoingLaws.{going_any}
use Rattle.vthread_state.proofs.table.ThreadTable.goes_on.Goals as goal

pub returns : goal.returns
returns c = ap (λ (n : ℕ). nat_lt 0 n) c.self.invariant.going ∙ going_any c.self.inside.threads.items ∙ ap (λ (w : Threads). goes_on w) c.self.view_is
