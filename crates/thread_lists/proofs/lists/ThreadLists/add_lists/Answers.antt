use Rattle.std.proofs.Common.{ap}
use Rattle.thread_lists.specs.Ring.{spelled}
use Rattle.thread_lists.proofs.SpellLaws.{own, seen, spelled_is}
use Rattle.thread_lists.proofs.lists.ThreadLists.add_lists.Goals as goal

pub invariant_of-self-2 : goal.invariant_of-self-2
invariant_of-self-2 c =
    let s = c.self.inside.threads.items in
    own c.add_heads.new.heads.items s _ (c.in_ok-add_heads.ensures.ok s (spelled c.self.inside.heads.items s) c.self.invariant)

pub returns-clause-ok : goal.returns-clause-ok
returns-clause-ok c =
    let s = c.self.inside.threads.items in
    rw (← c.self.view_is) (ap (λ ls. seen ls c.self.inside.threads.len) (spelled_is c.add_heads.new.heads.items s _ (c.in_ok-add_heads.ensures.ok s (spelled c.self.inside.heads.items s) c.self.invariant)))
