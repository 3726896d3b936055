use Rattle.std.proofs.Common.{arith, subst, sym}
use Rattle.thread_lists.specs.declared.ring.Link.{Link}
use Rattle.thread_lists.specs.Ring.{IsPlace, Joined, spelled}
use Rattle.thread_lists.proofs.SpellLaws.{IsPlace-InRing, Spells-remove, below, lists_below, next_at, previous_at}
use Rattle.thread_lists.proofs.ring.unlink.Goals as goal

pub link_at-link-requires : goal.link_at-link-requires
link_at-link-requires c =
    let h = c.args.heads.now in
    let s = c.args.threads.now in
    below h s (spelled h s) c.requires.linked c.args.list c.args.thread (lists_below h s (spelled h s) c.requires.linked c.args.list c.requires.list) c.requires.held

pub join-requires-clause-first : goal.join-requires-clause-first
join-requires-clause-first c =
    let h = c.args.heads.now in
    let s = c.args.threads.now in
    subst (λ (l : Link). IsPlace h s l.previous) (sym c.link_at-link.ensures)
    (IsPlace-InRing h s (spelled h s) c.requires.linked c.args.list c.requires.list _ (previous_at h s (spelled h s) c.requires.linked c.args.list c.args.thread c.requires.list c.requires.held))

pub join-requires-clause-second : goal.join-requires-clause-second
join-requires-clause-second c =
    let h = c.args.heads.now in
    let s = c.args.threads.now in
    subst (λ (l : Link). IsPlace h s l.next) (sym c.link_at-link.ensures)
    (IsPlace-InRing h s (spelled h s) c.requires.linked c.args.list c.requires.list _ (next_at h s (spelled h s) c.requires.linked c.args.list c.args.thread c.requires.list c.requires.held))

pub returns : goal.returns
returns c =
    let h = c.args.heads.now in
    let s = c.args.threads.now in
    let h1 = c.join.new.heads in
    let s1 = c.join.new.threads in
    let first = subst (λ (l : Link). Joined h s h1 s1 l.previous l.next) c.link_at-link.ensures c.join.ensures in
    Spells-remove h s h1 s1 c.join-2.new.heads c.join-2.new.threads (spelled h s) c.args.list c.args.thread (omega arith) (omega arith) c.requires.linked c.requires.list c.requires.held first c.join-2.ensures
