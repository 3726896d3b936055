use Rattle.std.proofs.Common.{ap, ◌∙◌}
use Rattle.std.specs.Prelude.{filter}
use Rattle.program_state.specs.Waiting.{lies_in}
use Rattle.program_state.proofs.WaitLaws.{are_woken, woken_all, woken_more}
use Rattle.program_state.proofs.waits.woken_by_end.Goals as goal

pub loop-u-preserved : goal.loop-u-preserved
loop-u-preserved c =
    woken_more (lies_in c.args.state.now.frozen.items) c.deref-u-items.result.now c.loop-u.u-index c.loop-u.woken.items c.push_frozen.new.woken.items c.loop-u-test.true
    c.loop-u.invariant c.in_ok-push_frozen.ensures

pub loop-u-init : goal.loop-u-init
loop-u-init c = c.new-woken.ensures.items

pub returns : goal.returns
returns c =
    let p = lies_in c.args.state.now.frozen.items in
    are_woken c.args.t c.args.state.now c.in_ok-joiners.joiners.items c.loop-u.woken.items c.in_ok-joiners.ensures.just_these c.in_ok-joiners.ensures.rising
    (woken_all p c.deref-u-items.result.now c.loop-u.u-index c.loop-u.woken.items c.loop-u-test.false c.loop-u.invariant ∙ ap (filter p) c.deref-u-items.ensures.value)
