use Rattle.std.proofs.Common.{arith, List, ℕ}
use Rattle.thread_lists.specs.Lists.{append}
use Rattle.thread_lists.proofs.SpellLaws.{IsLinked-lent, lists-lent}
use Rattle.thread_lists.proofs.lists.ThreadLists.append.Goals as goal

pub invariant_of-self : goal.invariant_of-self
invariant_of-self c =
    IsLinked-lent c.self.inside.heads c.self.inside.threads c.link_all.new.heads c.link_all.new.threads _ (omega arith) (omega arith) c.link_all.ensures

pub returns : goal.returns
returns c =
    rw (← c.self.view_is) (lists-lent (λ (ls : List (List ℕ)). append ls c.args.from c.args.to) c.self.inside.heads c.self.inside.threads _ _ c.link_all.new.heads c.link_all.new.threads c.deref_mut.ensures.value c.deref_mut-2.ensures.value (omega arith) (omega arith) c.link_all.ensures)
