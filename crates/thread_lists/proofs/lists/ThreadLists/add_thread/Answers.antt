use Rattle.std.proofs.Common.{ap, ◌∙◌, arith, rules, length, ◌≡◌}
use Rattle.thread_lists.specs.Ring.{spelled}
use Rattle.thread_lists.proofs.SpellLaws.{added_thread, own, seen, spelled_is}
use Rattle.thread_lists.proofs.lists.ThreadLists.add_thread.Goals as goal

pub invariant_of-self-2 : goal.invariant_of-self-2
invariant_of-self-2 c =
    let h = c.self.inside.heads.items in
    let s = c.self.inside.threads.items in
    let at : c.in-Ok.thread ≡ length s = search rules in
    own h c.push.new.self.items _ (added_thread h s c.push.new.self.items c.ring_of_one.result c.in-Ok.thread (spelled h s) c.in_ok-push.ensures.items c.ring_of_one.ensures at (omega (arith, c.if-thread-lt4294967295.true)) c.self.invariant)

pub returns-clause-ok : goal.returns-clause-ok
returns-clause-ok c =
    let h = c.self.inside.heads.items in
    let s = c.self.inside.threads.items in
    let at : c.in-Ok.thread ≡ length s = search rules in
    rw (← c.self.view_is) (ap (λ ls. seen ls c.push.new.self.len) (spelled_is h c.push.new.self.items _ (added_thread h s c.push.new.self.items c.ring_of_one.result c.in-Ok.thread (spelled h s) c.in_ok-push.ensures.items c.ring_of_one.ensures at (omega (arith, c.if-thread-lt4294967295.true)) c.self.invariant)) ∙ ap (seen (spelled h s)) c.in_ok-push.ensures.len)
