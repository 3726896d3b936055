use Rattle.std.proofs.Common.{ap, refl}
use Rattle.machine.specs.declared.after.After.TheVariants as After
use Rattle.machine.specs.Steps.{told_of}
use Rattle.machine.proofs.EnterLaws.{entered_by}
use Rattle.machine.proofs.entries.enter_step.Goals as goal

pub returns-in-Runs-clause-entered : goal.returns-in-Runs-clause-entered
returns-in-Runs-clause-entered c =
    let x = c.enter in
    entered_by c.args.tried After.Runs x.result c.args.history.now.items x.new.history.items c.args.told.now c.args.told.now c.args.c c.args.most_threads c.args.step
    (ap told_of c.in-Runs.is) x.ensures.items refl x.ensures.after

pub returns-in-Goes-clause-entered : goal.returns-in-Goes-clause-entered
returns-in-Goes-clause-entered c =
    let x = c.enter-in-Goes in
    entered_by c.args.tried After.Goes x.result c.args.history.now.items x.new.history.items c.args.told.now c.args.told.now c.args.c c.args.most_threads c.args.step
    (ap told_of c.in-Goes.is) x.ensures.items refl x.ensures.after

pub returns-in-Leaves-clause-entered : goal.returns-in-Leaves-clause-entered
returns-in-Leaves-clause-entered c =
    let x = c.enter-in-Leaves in
    entered_by c.args.tried After.Leaves x.result c.args.history.now.items x.new.history.items c.args.told.now c.args.told.now c.args.c c.args.most_threads c.args.step
    (ap told_of c.in-Leaves.is) x.ensures.items refl x.ensures.after

pub returns-in-Ends-clause-entered : goal.returns-in-Ends-clause-entered
returns-in-Ends-clause-entered c =
    let x = c.enter-in-Ends in
    entered_by c.args.tried After.Ends x.result c.args.history.now.items x.new.history.items c.args.told.now c.args.told.now c.args.c c.args.most_threads c.args.step
    (ap told_of c.in-Ends.is) x.ensures.items refl x.ensures.after

pub returns-in-Notifies-clause-entered : goal.returns-in-Notifies-clause-entered
returns-in-Notifies-clause-entered c =
    let x = c.enter-in-Notifies in
    entered_by c.args.tried After.Goes x.result c.args.history.now.items x.new.history.items c.args.told.now c.args.told.now c.args.c c.args.most_threads c.args.step
    (ap told_of c.in-Notifies.is) x.ensures.items refl x.ensures.after
