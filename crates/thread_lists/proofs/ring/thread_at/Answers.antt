use Rattle.std.proofs.Common.{ap, arith, sym, ◌∙◌, ◌≡◌, slice_get}
use Rattle.thread_lists.specs.declared.ring.Link.{Link}
use Rattle.thread_lists.specs.Lists.{list_at}
use Rattle.thread_lists.specs.Ring.{spelled}
use Rattle.std.proofs.lemmas.Option.{slice_get_past}
use Rattle.thread_lists.proofs.SpellLaws.{step, step_end}
use Rattle.thread_lists.proofs.ring.thread_at.Goals as goal

pub link_at-place-requires-in-Thread : goal.link_at-place-requires-in-Thread
link_at-place-requires-in-Thread c =
    let h = c.args.heads.now in
    let s = c.args.threads.now in
    (step h s (spelled h s) c.requires.linked c.args.list c.loop-i._i c.loop-i.place c.in-Thread.field-0 c.requires.list c.loop-i.invariant c.in-Thread.is).inside

pub returns-in-Head : goal.returns-in-Head
returns-in-Head c =
    let xs = list_at (spelled c.args.heads.now c.args.threads.now) c.args.list in
    let at = step_end c.args.list c.loop-i._i xs c.loop-i.place c.in-Head.field-0 c.loop-i.invariant c.in-Head.is in
    sym (slice_get_past xs c.args.index (omega (arith, at.1)))

pub loop-i-preserved : goal.loop-i-preserved
loop-i-preserved c =
    let h = c.args.heads.now in
    let s = c.args.threads.now in
    let at = step h s (spelled h s) c.requires.linked c.args.list c.loop-i._i c.loop-i.place c.in-Thread.field-0 c.requires.list c.loop-i.invariant c.in-Thread.is in
    ap (λ (l : Link). l.next) c.link_at-place-in-Thread.ensures ∙ at.next

pub returns-in-Thread-place : goal.returns-in-Thread-place
returns-in-Thread-place c =
    let h = c.args.heads.now in
    let s = c.args.threads.now in
    let at = step h s (spelled h s) c.requires.linked c.args.list c.loop-i._i c.loop-i.place c.in-Thread-place.thread c.requires.list c.loop-i.invariant c.in-Thread-place.is in
    let end : c.loop-i._i ≡ c.args.index = omega arith in
    sym (ap (slice_get (list_at (spelled h s) c.args.list)) (sym end) ∙ at.at)

pub returns-in-Head-place : goal.returns-in-Head-place
returns-in-Head-place c =
    let xs = list_at (spelled c.args.heads.now c.args.threads.now) c.args.list in
    let at = step_end c.args.list c.loop-i._i xs c.loop-i.place c.in-Head-place.field-0 c.loop-i.invariant c.in-Head-place.is in
    sym (slice_get_past xs c.args.index (omega (arith, at.1)))
