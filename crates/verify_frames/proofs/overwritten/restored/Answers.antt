use Rattle.std.proofs.Common.{refl}
use Rattle.verify_instructions.specs.Views.{state_in}
use Rattle.verify_frames.proofs.OverwriteLaws.{all_restored, begins, goes_on}
use Rattle.verify_frames.proofs.overwritten.restored.Goals as goal

pub loop-o-init : goal.loop-o-init
loop-o-init c = begins c.args.overwritten.now (state_in c.args.state)

pub loop-o-preserved : goal.loop-o-preserved
loop-o-preserved c =
    goes_on c.args.overwritten.now c.loop-o.rest.now c.in-Some.behind.now c.in-Some.o.now (state_in c.args.state) (state_in c.loop-o.state) (state_in (record c.loop-o.state { types = c.overwrite.new.self }))
    c.loop-o.invariant c.in-Some.ensures.cases.0 c.in_ok-overwrite.ensures.locals c.in_ok-overwrite.ensures.stack refl

pub returns : goal.returns
returns c = all_restored c.args.overwritten.now c.loop-o.rest.now (state_in c.args.state) (state_in c.loop-o.state) c.loop-o.invariant c.in_default.ensures.cases
