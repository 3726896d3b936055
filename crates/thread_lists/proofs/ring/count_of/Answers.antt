use Rattle.std.proofs.Common.{ap, arith, ◌∙◌}
use Rattle.thread_lists.specs.declared.ring.Link.{Link}
use Rattle.thread_lists.specs.Lists.{list_at}
use Rattle.thread_lists.specs.Ring.{spelled}
use Rattle.thread_lists.proofs.SpellLaws.{step, step_end}
use Rattle.thread_lists.proofs.ring.count_of.Goals as goal

pub link_at-place-requires-in-Thread : goal.link_at-place-requires-in-Thread
link_at-place-requires-in-Thread c =
    let h = c.args.heads.now in
    let s = c.args.threads.now in
    (step h s (spelled h s) c.requires.linked c.args.list c.loop-place.count c.loop-place.place c.in-Thread.field-0 c.requires.list c.loop-place.invariant.place c.in-Thread.is).inside

pub overflow_add-count : goal.overflow_add-count
overflow_add-count c =
    let h = c.args.heads.now in
    let s = c.args.threads.now in
    let at = step h s (spelled h s) c.requires.linked c.args.list c.loop-place.count c.loop-place.place c.in-Thread.field-0 c.requires.list c.loop-place.invariant.place c.in-Thread.is in
    omega (arith, at.fits)

pub loop-place-preserved : goal.loop-place-preserved
loop-place-preserved c =
    let h = c.args.heads.now in
    let s = c.args.threads.now in
    let at = step h s (spelled h s) c.requires.linked c.args.list c.loop-place.count c.loop-place.place c.in-Thread.field-0 c.requires.list c.loop-place.invariant.place c.in-Thread.is in
    record {
      place = ap (λ (l : Link). l.next) c.link_at-place-in-Thread.ensures ∙ at.next;
      count = omega (arith, at.below);
    }

pub returns : goal.returns
returns c =
    let xs = list_at (spelled c.args.heads.now c.args.threads.now) c.args.list in
    let at = step_end c.args.list c.loop-place.count xs c.loop-place.place c.in_default.field-0 c.loop-place.invariant.place c.in_default.is in
    omega (arith, at.1, c.loop-place.invariant.count)
