use Rattle.std.proofs.Common.{ap, arith, sym, ◌∙◌}
use Rattle.thread_lists.specs.declared.ring.Link.{Link}
use Rattle.thread_lists.specs.Ring.{spelled}
use Rattle.thread_lists.proofs.SpellLaws.{behind_none, behind_thread, listed_inside}
use Rattle.thread_lists.proofs.ring.thread_behind.Goals as goal

pub returns-then-thread-threads : goal.returns-then-thread-threads
returns-then-thread-threads c = λ k i there at.
    let h = c.args.heads.now in
    let s = c.args.threads.now in
    absurd (omega (arith, listed_inside h s (spelled h s) c.requires k i c.args.thread there at))

pub returns-in-Thread : goal.returns-in-Thread
returns-in-Thread c = λ k i there at.
    let h = c.args.heads.now in
    let s = c.args.threads.now in
    behind_thread h s (spelled h s) c.requires k i c.args.thread c.in-Thread.next there at (sym (ap (λ (l : Link). l.next) c.link_at.ensures) ∙ c.in-Thread.is)

pub returns-in-Head : goal.returns-in-Head
returns-in-Head c = λ k i there at.
    let h = c.args.heads.now in
    let s = c.args.threads.now in
    behind_none h s (spelled h s) c.requires k i c.args.thread c.in-Head.field-0 there at (sym (ap (λ (l : Link). l.next) c.link_at.ensures) ∙ c.in-Head.is)
