use Rattle.std.proofs.Common.{arith, List, ℕ, [], ◌∷◌}
use Rattle.thread_lists.specs.Lists.{push}
use Rattle.thread_lists.proofs.SpellLaws.{IsLinked-lent, lists-lent}
use Rattle.thread_lists.proofs.lists.ThreadLists.push.Goals as goal

pub invariant_of-self : goal.invariant_of-self
invariant_of-self c =
    IsLinked-lent c.self.inside.heads c.self.inside.threads c.link_last.new.heads c.link_last.new.threads _ (omega arith) (omega arith) c.link_last.ensures

pub returns : goal.returns
returns c =
    rw (← c.self.view_is) (lists-lent (λ (ls : List (List ℕ)). push ls c.args.list (c.args.thread ∷ [])) c.self.inside.heads c.self.inside.threads _ _ c.link_last.new.heads c.link_last.new.threads c.deref_mut.ensures.value c.deref_mut-2.ensures.value (omega arith) (omega arith) c.link_last.ensures)
