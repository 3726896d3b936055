use Rattle.std.proofs.Common.{◌<◌, ℕ, length, subst, sym}
use Rattle.std.specs.Prelude.{IfOk}
use Rattle.machine.specs.declared.made.Attempt.{Attempt}
use Rattle.machine.specs.declared.made.Move.{Move}
use Rattle.machine.specs.Moves.{IsMade}
use Rattle.machine.specs.Steps.{IsConcluded, picked_by, told_of}
use Rattle.machine.proofs.EnterLaws.{concluded_so, concluded_stays, lacks_by, reads_by, step_below, step_carrier, step_seated, who_is_touched, who_starts}
use Rattle.machine.proofs.entries.asking_step.Goals as goal

pub returns-in-ReadsClock-clause-made : goal.returns-in-ReadsClock-clause-made
returns-in-ReadsClock-clause-made c = λ carriers n on from.
    let m = c.args.mounted.now in
    let k = c.asked_move.new.mounted in
    reads_by c.args.program.now carriers c.args.state.now c.args.deques.now on c.args.c m.thread n m.stack.frames from c.args.now c.asked_move.new.state
    (subst (λ (o : Attempt Move). IsMade c.args.program.now o c.args.now m.thread c.args.state.now m.stack.frames c.asked_move.new.state k.stack.frames)
    c.in-ReadsClock.is c.in-Ok.ensures.made)

pub returns-in-LacksThreads-clause-made : goal.returns-in-LacksThreads-clause-made
returns-in-LacksThreads-clause-made c = λ carriers n on from.
    let m = c.args.mounted.now in
    let k = c.asked_move.new.mounted in
    lacks_by c.args.program.now carriers c.args.state.now c.args.deques.now on c.args.c m.thread n m.stack.frames from c.asked_move.new.state
    (subst (λ (o : Attempt Move). IsMade c.args.program.now o c.args.now m.thread c.args.state.now m.stack.frames c.asked_move.new.state k.stack.frames)
    c.in-LacksThreads.is c.in-Ok.ensures.made)

pub conclude-requires-clause-thread : goal.conclude-requires-clause-thread
conclude-requires-clause-thread c =
    let m = c.args.mounted.now in
    let k = c.asked_move.new.mounted in
    let x = c.requires.from in
    let moves = subst (λ (o : Attempt Move). IsMade c.args.program.now o c.args.now m.thread c.args.state.now m.stack.frames c.asked_move.new.state k.stack.frames)
    c.in-Made.is c.in-Ok.ensures.made in
    subst (λ (u : ℕ). u < length c.asked_move.new.state.threads.threads) (sym c.thread-t.ensures)
    (step_below c.args.program.now x.carriers c.args.state.now c.args.deques.now x.on c.args.c m.thread x.local m.stack.frames x.from
    c.in-Made.made c.asked_move.new.state k.stack.frames moves.0)

pub conclude-requires-clause-carrier : goal.conclude-requires-clause-carrier
conclude-requires-clause-carrier c =
    let m = c.args.mounted.now in
    let x = c.requires.from in
    step_carrier c.args.program.now x.carriers c.args.state.now c.args.deques.now x.on c.args.c m.thread x.local m.stack.frames x.from

pub conclude-requires-clause-touched : goal.conclude-requires-clause-touched
conclude-requires-clause-touched c =
    let m = c.args.mounted.now in
    let k = c.asked_move.new.mounted in
    let x = c.requires.from in
    let moves = subst (λ (o : Attempt Move). IsMade c.args.program.now o c.args.now m.thread c.args.state.now m.stack.frames c.asked_move.new.state k.stack.frames)
    c.in-Made.is c.in-Ok.ensures.made in
    who_is_touched c.args.program.now x.carriers c.args.state.now c.args.deques.now x.on c.args.c m.thread x.local m.stack.frames x.from
    c.in-Made.made c.asked_move.new.state k.stack.frames moves.0

pub conclude-requires-clause-free : goal.conclude-requires-clause-free
conclude-requires-clause-free c = λ u e.
    let m = c.args.mounted.now in
    let k = c.asked_move.new.mounted in
    let x = c.requires.from in
    let moves = subst (λ (o : Attempt Move). IsMade c.args.program.now o c.args.now m.thread c.args.state.now m.stack.frames c.asked_move.new.state k.stack.frames)
    c.in-Made.is c.in-Ok.ensures.made in
    who_starts c.args.program.now x.carriers c.args.state.now c.args.deques.now x.on c.args.c m.thread x.local m.stack.frames x.from
    c.in-Made.made c.asked_move.new.state k.stack.frames moves.0 u e

pub returns-in-Made-clause-made : goal.returns-in-Made-clause-made
returns-in-Made-clause-made c =
    let m = c.args.mounted.now in
    let k = c.asked_move.new.mounted in
    let new = c.asked_move.new.state in
    let left = c.conclude.new.deques in
    let tried = told_of c.conclude.result in
    let moves = subst (λ (o : Attempt Move). IsMade c.args.program.now o c.args.now m.thread c.args.state.now m.stack.frames new k.stack.frames)
    c.in-Made.is c.in-Ok.ensures.made in
    let pick = picked_by c.conclude.result in
    concluded_so c.args.program.now c.in-Made.made c.args.state.now new m c.args.deques.now left c.args.c c.args.now tried pick k.stack.frames moves.0 moves.1
    (subst (λ (t : ℕ). IfOk tried (IsConcluded c.args.program.now new t k.stack.frames c.in-Made.made c.args.c c.args.deques.now left pick)) c.thread-t.ensures c.conclude.ensures)

pub returns-in-Made-clause-kept : goal.returns-in-Made-clause-kept
returns-in-Made-clause-kept c =
    concluded_stays c.args.program.now c.asked_move.new.state c.thread-t.result c.args.c c.asked_move.new.mounted.stack.frames c.in-Made.made c.args.deques.now c.conclude.new.deques (picked_by c.conclude.result) c.args.mounted.now c.asked_move.new.mounted
    (told_of c.conclude.result) c.conclude.ensures

pub asked_move-requires-clause-seated : goal.asked_move-requires-clause-seated
asked_move-requires-clause-seated c =
    let x = c.requires.from in
    step_seated c.args.program.now x.carriers c.args.state.now c.args.deques.now x.on c.args.c c.args.mounted.now.thread x.local c.args.mounted.now.stack.frames x.from
