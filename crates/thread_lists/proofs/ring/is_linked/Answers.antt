use Rattle.std.proofs.Common.{ap, sym, ◌∙◌}
use Rattle.thread_lists.specs.declared.ring.Link.{Link}
use Rattle.thread_lists.specs.Ring.{spelled}
use Rattle.thread_lists.proofs.SpellLaws.{is_linked_by_next}
use Rattle.thread_lists.proofs.ring.is_linked.Goals as goal

pub returns-in-Thread : goal.returns-in-Thread
returns-in-Thread c =
    let h = c.args.heads.now in
    let s = c.args.threads.now in
    is_linked_by_next h s (spelled h s) c.requires c.args.thread c.in-Thread.next (sym (ap (λ (l : Link). l.next) c.link_at.ensures) ∙ c.in-Thread.is)
