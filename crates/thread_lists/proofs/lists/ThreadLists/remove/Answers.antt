use Rattle.std.proofs.Common.{arith, List, ℕ, slice_set}
use Rattle.thread_lists.specs.Lists.{list_at, without}
use Rattle.thread_lists.proofs.SpellLaws.{IsLinked-lent, lists-lent}
use Rattle.thread_lists.proofs.lists.ThreadLists.remove.Goals as goal

pub invariant_of-self : goal.invariant_of-self
invariant_of-self c =
    IsLinked-lent c.self.inside.heads c.self.inside.threads c.unlink.new.heads c.unlink.new.threads _ (omega arith) (omega arith) c.unlink.ensures

pub returns : goal.returns
returns c =
    rw (← c.self.view_is) (lists-lent (λ (ls : List (List ℕ)). slice_set ls c.args.list (without c.args.thread (list_at ls c.args.list))) c.self.inside.heads c.self.inside.threads _ _ c.unlink.new.heads c.unlink.new.threads c.deref_mut.ensures.value c.deref_mut-2.ensures.value (omega arith) (omega arith) c.unlink.ensures)
