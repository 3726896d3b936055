use Rattle.std.proofs.Common.{arith, subst, sym}
use Rattle.thread_lists.specs.declared.ring.Link.{Link}
use Rattle.thread_lists.specs.declared.ring.Place.TheVariants.{Thread}
use Rattle.thread_lists.specs.Ring.{IsPlace, Joined, spelled}
use Rattle.thread_lists.proofs.SpellLaws.{IsPlace-InRing, Spells-push, last_in_ring}
use Rattle.thread_lists.proofs.ring.link_last.Goals as goal

pub join-requires-clause-first : goal.join-requires-clause-first
join-requires-clause-first c =
    let h = c.args.heads.now in
    let s = c.args.threads.now in
    subst (λ (l : Link). IsPlace h s l.previous) (sym c.link_at-last.ensures)
    (IsPlace-InRing h s (spelled h s) c.requires.linked c.args.list c.requires.list _ (last_in_ring h s (spelled h s) c.requires.linked c.args.list c.requires.list))

pub returns : goal.returns
returns c =
    let h = c.args.heads.now in
    let s = c.args.threads.now in
    let h1 = c.join.new.heads in
    let s1 = c.join.new.threads in
    let first = subst (λ (l : Link). Joined h s h1 s1 l.previous (Thread c.args.thread)) c.link_at-last.ensures c.join.ensures in
    Spells-push h s h1 s1 c.join-2.new.heads c.join-2.new.threads (spelled h s) c.args.list c.args.thread (omega arith) (omega arith) c.requires.linked c.requires.list c.requires.thread c.requires.free first c.join-2.ensures
