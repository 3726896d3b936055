use Rattle.std.proofs.Common.{◌<◌, ℕ, length, subst, sym}
use Rattle.std.specs.Prelude.{IfOk}
use Rattle.machine.specs.Steps.{IsConcluded, picked_by, told_of}
use Rattle.machine.proofs.EnterLaws.{concluded_so, concluded_stays, step_below, step_carrier, step_seated, who_is_touched, who_starts}
use Rattle.machine.proofs.entries.other_step.Goals as goal

pub conclude-requires-clause-thread : goal.conclude-requires-clause-thread
conclude-requires-clause-thread c =
    let m = c.args.mounted.now in
    let x = c.requires.from in
    subst (λ (u : ℕ). u < length c.other_move.new.state.threads.threads) (sym c.thread-t.ensures)
    (step_below c.args.program.now x.carriers c.args.state.now c.args.deques.now x.on c.args.c m.thread x.local m.stack.frames x.from
    c.in-Ok.made c.other_move.new.state c.other_move.new.mounted.stack.frames c.in-Ok.ensures.made.0)

pub conclude-requires-clause-carrier : goal.conclude-requires-clause-carrier
conclude-requires-clause-carrier c =
    let m = c.args.mounted.now in
    let x = c.requires.from in
    step_carrier c.args.program.now x.carriers c.args.state.now c.args.deques.now x.on c.args.c m.thread x.local m.stack.frames x.from

pub conclude-requires-clause-touched : goal.conclude-requires-clause-touched
conclude-requires-clause-touched c =
    let m = c.args.mounted.now in
    let x = c.requires.from in
    who_is_touched c.args.program.now x.carriers c.args.state.now c.args.deques.now x.on c.args.c m.thread x.local m.stack.frames x.from
    c.in-Ok.made c.other_move.new.state c.other_move.new.mounted.stack.frames c.in-Ok.ensures.made.0

pub conclude-requires-clause-free : goal.conclude-requires-clause-free
conclude-requires-clause-free c = λ u e.
    let m = c.args.mounted.now in
    let x = c.requires.from in
    who_starts c.args.program.now x.carriers c.args.state.now c.args.deques.now x.on c.args.c m.thread x.local m.stack.frames x.from
    c.in-Ok.made c.other_move.new.state c.other_move.new.mounted.stack.frames c.in-Ok.ensures.made.0 u e

pub returns-clause-made : goal.returns-clause-made
returns-clause-made c = λ now.
    let m = c.args.mounted.now in
    let k = c.other_move.new.mounted in
    let new = c.other_move.new.state in
    let left = c.conclude.new.deques in
    let tried = told_of c.conclude.result in
    let pick = picked_by c.conclude.result in
    concluded_so c.args.program.now c.in-Ok.made c.args.state.now new m c.args.deques.now left c.args.c now tried pick k.stack.frames c.in-Ok.ensures.made.0
    (c.in-Ok.ensures.made.1 now)
    (subst (λ (t : ℕ). IfOk tried (IsConcluded c.args.program.now new t k.stack.frames c.in-Ok.made c.args.c c.args.deques.now left pick)) c.thread-t.ensures c.conclude.ensures)

pub returns-clause-kept : goal.returns-clause-kept
returns-clause-kept c =
    concluded_stays c.args.program.now c.other_move.new.state c.thread-t.result c.args.c c.other_move.new.mounted.stack.frames c.in-Ok.made c.args.deques.now c.conclude.new.deques (picked_by c.conclude.result) c.args.mounted.now c.other_move.new.mounted
    (told_of c.conclude.result) c.conclude.ensures

pub other_move-requires-clause-seated : goal.other_move-requires-clause-seated
other_move-requires-clause-seated c =
    let x = c.requires.from in
    step_seated c.args.program.now x.carriers c.args.state.now c.args.deques.now x.on c.args.c c.args.mounted.now.thread x.local c.args.mounted.now.stack.frames x.from
