use Rattle.std.proofs.Common.{ap, arith, subst, sym, ◌∙◌}
use Rattle.thread_lists.specs.declared.ring.Link.{Link}
use Rattle.thread_lists.specs.declared.ring.Place.TheVariants.{Head}
use Rattle.thread_lists.specs.Ring.{IsPlace, Joined, Spells, link_of, spelled}
use Rattle.thread_lists.proofs.SpellLaws.{IsPlace-InRing, IsPlace-same, Spells-append, append-none, first_in_ring, last_in_ring, no_first, place_behind}
use Rattle.thread_lists.proofs.ring.link_all.Goals as goal

pub returns-in-Head : goal.returns-in-Head
returns-in-Head c =
    let h = c.args.heads.now in
    let s = c.args.threads.now in
    let none = no_first h s (spelled h s) c.requires.linked c.args.from c.in-Head.field-0 c.requires.from (sym (ap (λ (l : Link). l.next) c.link_at-moved.ensures) ∙ c.in-Head.is) in
    subst (Spells h s) (sym (append-none (spelled h s) c.args.from c.args.to none)) c.requires.linked

pub join-requires-clause-first : goal.join-requires-clause-first
join-requires-clause-first c =
    let h = c.args.heads.now in
    let s = c.args.threads.now in
    subst (λ (l : Link). IsPlace h s l.previous) (sym c.link_at-last.ensures)
    (IsPlace-InRing h s (spelled h s) c.requires.linked c.args.to c.requires.to _ (last_in_ring h s (spelled h s) c.requires.linked c.args.to c.requires.to))

pub join-requires-clause-second : goal.join-requires-clause-second
join-requires-clause-second c =
    let h = c.args.heads.now in
    let s = c.args.threads.now in
    subst (λ (l : Link). IsPlace h s l.next) (sym c.link_at-moved.ensures)
    (place_behind h s (spelled h s) c.requires.linked c.args.from c.in_default.field-0 c.requires.from (sym (ap (λ (l : Link). l.next) c.link_at-moved.ensures) ∙ c.in_default.is))

pub join-requires-2-clause-first : goal.join-requires-2-clause-first
join-requires-2-clause-first c =
    let h = c.args.heads.now in
    let s = c.args.threads.now in
    IsPlace-same h s c.join.new.heads c.join.new.threads c.link_at-moved.result.previous (omega arith) (omega arith)
    (subst (λ (l : Link). IsPlace h s l.previous) (sym c.link_at-moved.ensures)
    (IsPlace-InRing h s (spelled h s) c.requires.linked c.args.from c.requires.from _ (last_in_ring h s (spelled h s) c.requires.linked c.args.from c.requires.from)))

pub returns : goal.returns
returns c =
    let h = c.args.heads.now in
    let s = c.args.threads.now in
    let h1 = c.join.new.heads in
    let s1 = c.join.new.threads in
    let h2 = c.join-2.new.heads in
    let s2 = c.join-2.new.threads in
    let one = subst (λ (l : Link). Joined h s h1 s1 l.previous c.link_at-moved.result.next) c.link_at-last.ensures c.join.ensures in
    let first = subst (λ (l : Link). Joined h s h1 s1 (link_of h s (Head c.args.to)).previous l.next) c.link_at-moved.ensures one in
    let second = subst (λ (l : Link). Joined h1 s1 h2 s2 l.previous (Head c.args.to)) c.link_at-moved.ensures c.join-2.ensures in
    let begins = first_in_ring h s (spelled h s) c.requires.linked c.args.from c.in_default.field-0 c.requires.from (sym (ap (λ (l : Link). l.next) c.link_at-moved.ensures) ∙ c.in_default.is) in
    Spells-append h s h1 s1 h2 s2 c.join-3.new.heads c.join-3.new.threads (spelled h s) c.args.from c.args.to (omega arith) (omega arith) c.requires.linked c.requires.from c.requires.to c.requires.differ c.in_default.field-0 begins.0 begins.1 first second c.join-3.ensures
