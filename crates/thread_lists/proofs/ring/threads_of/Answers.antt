use Rattle.std.proofs.Common.{ap, arith, subst, sym, ◌∙◌, ◌≡◌, ◌+◌, ℕ, drop, take, vec_len}
use Rattle.thread_lists.specs.declared.ring.Link.{Link}
use Rattle.thread_lists.specs.Lists.{list_at}
use Rattle.thread_lists.specs.Ring.{IsPlace, next_of, spelled, start_of}
use Rattle.thread_lists.proofs.SpellLaws.{step, step_end, take_more, take_all}
use Rattle.thread_lists.proofs.ring.threads_of.Goals as goal

pub link_at-place-requires-in-Thread : goal.link_at-place-requires-in-Thread
link_at-place-requires-in-Thread c =
    let h = c.args.heads.now in
    let s = c.args.threads.now in
    let at = step h s (spelled h s) c.requires.linked c.args.list (vec_len c.loop-place.found) c.loop-place.place c.in-Thread.thread c.requires.list c.loop-place.invariant.place c.in-Thread.is in
    subst (IsPlace h s) c.in-Thread.is at.inside

pub loop-place-smaller : goal.loop-place-smaller
loop-place-smaller c =
    let h = c.args.heads.now in
    let s = c.args.threads.now in
    let at = step h s (spelled h s) c.requires.linked c.args.list (vec_len c.loop-place.found) c.loop-place.place c.in-Thread.thread c.requires.list c.loop-place.invariant.place c.in-Thread.is in
    omega (arith, at.below, c.in_ok-push.ensures.len)

pub loop-place-preserved : goal.loop-place-preserved
loop-place-preserved c =
    let h = c.args.heads.now in
    let s = c.args.threads.now in
    let xs = list_at (spelled h s) c.args.list in
    let at = step h s (spelled h s) c.requires.linked c.args.list (vec_len c.loop-place.found) c.loop-place.place c.in-Thread.thread c.requires.list c.loop-place.invariant.place c.in-Thread.is in
    let more : vec_len c.loop-place.found + 1 ≡ vec_len c.push.new.self = sym c.in_ok-push.ensures.len in
    record {
      place = ap (λ (l : Link). l.next) c.link_at-place-in-Thread.ensures ∙ ap (next_of h s) (sym c.in-Thread.is) ∙ at.next ∙ ap (λ (n : ℕ). start_of c.args.list (drop n xs)) more;
      found = take_more xs c.loop-place.found.items c.push.new.self.items (vec_len c.loop-place.found) c.in-Thread.thread c.loop-place.invariant.found at.at c.in_ok-push.ensures.items ∙ ap (λ (n : ℕ). take n xs) more;
    }

pub returns : goal.returns
returns c =
    let xs = list_at (spelled c.args.heads.now c.args.threads.now) c.args.list in
    let at = step_end c.args.list (vec_len c.loop-place.found) xs c.loop-place.place c.in_default.field-0 c.loop-place.invariant.place c.in_default.is in
    take_all xs c.loop-place.found.items (vec_len c.loop-place.found) c.loop-place.invariant.found at.1
