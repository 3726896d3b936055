use Rattle.std.proofs.Common.{◌<◌, ℕ, length, subst, sym, ◌∙◌}
use Rattle.std.specs.Prelude.{IfOk}
use Rattle.std.proofs.lemmas.Result.{on_ok_weaker}
use Rattle.vthread_state.specs.declared.phase.Phase.TheVariants.{Run}
use Rattle.continuation.specs.Continuation.{Continuation}
use Rattle.program_state.specs.declared.state.ProgramState.{ProgramState}
use Rattle.machine.specs.AtHand.{IsAt}
use Rattle.machine.specs.Moves.{IsAsked, StaysIfReading, alone}
use Rattle.machine.specs.Steps.{IsConcluded, MayBeMade, picked_by, told_of}
use Rattle.machine.proofs.EnterLaws.{concluded_so, concluded_stays, enters_running, step_below, step_carrier, still_tried}
use Rattle.machine.proofs.MoveLaws.{the_step, what_it_asks}
use Rattle.machine.proofs.entries.running_step.Goals as goal

pub asking_step-requires-clause-from : goal.asking_step-requires-clause-from
asking_step-requires-clause-from c =
    let w = c.args.program.now in
    let m = c.args.mounted.now in
    let mid = c.running_move.new.state in
    let k = c.running_move.new.mounted in
    let asked = what_it_asks w c.running_move.new.progress c.args.state.now mid m k c.in-Ok.ensures.made (sym c.has_stepped.ensures ∙ c.if-not-has_stepped.true) in
    subst (λ (s : ProgramState). MayBeMade w s c.args.deques.now c.args.c k.thread k.stack.frames) (sym asked.1.state)
    (subst (λ (x : Continuation). MayBeMade w c.args.state.now c.args.deques.now c.args.c x.thread x.stack.frames) (sym asked.1.mounted) c.requires.from)

pub asking_step-requires-clause-runs : goal.asking_step-requires-clause-runs
asking_step-requires-clause-runs c =
    let w = c.args.program.now in
    let m = c.args.mounted.now in
    let mid = c.running_move.new.state in
    let k = c.running_move.new.mounted in
    let asked = what_it_asks w c.running_move.new.progress c.args.state.now mid m k c.in-Ok.ensures.made (sym c.has_stepped.ensures ∙ c.if-not-has_stepped.true) in
    subst (λ (s : ProgramState). IsAt s k.thread Run) (sym asked.1.state)
    (subst (λ (x : Continuation). IsAt c.args.state.now x.thread Run) (sym asked.1.mounted) c.requires.runs)

pub asking_step-requires-clause-asked : goal.asking_step-requires-clause-asked
asking_step-requires-clause-asked c =
    let w = c.args.program.now in
    let m = c.args.mounted.now in
    let mid = c.running_move.new.state in
    let k = c.running_move.new.mounted in
    let p = c.running_move.new.progress in
    let asked = what_it_asks w p c.args.state.now mid m k c.in-Ok.ensures.made (sym c.has_stepped.ensures ∙ c.if-not-has_stepped.true) in
    subst (λ (s : ProgramState). IsAsked w p s.memory k.stack.frames) (sym asked.1.state)
    (subst (λ (x : Continuation). IsAsked w p c.args.state.now.memory x.stack.frames) (sym asked.1.mounted) asked.0)

pub returns-then-not-has_stepped-clause-made : goal.returns-then-not-has_stepped-clause-made
returns-then-not-has_stepped-clause-made c =
    let w = c.args.program.now in
    let m = c.args.mounted.now in
    let mid = c.running_move.new.state in
    let k = c.running_move.new.mounted in
    let x = c.asking_step in
    let asked = what_it_asks w c.running_move.new.progress c.args.state.now mid m k c.in-Ok.ensures.made (sym c.has_stepped.ensures ∙ c.if-not-has_stepped.true) in
    still_tried w c.args.state.now mid x.new.state m k c.args.deques.now x.new.deques c.args.c c.args.now (told_of x.result) (picked_by x.result) x.new.mounted.stack.frames asked.1
    x.ensures.made

pub returns-then-not-has_stepped-clause-thread : goal.returns-then-not-has_stepped-clause-thread
returns-then-not-has_stepped-clause-thread c =
    on_ok_weaker (told_of c.asking_step.result) (λ same. same ∙ c.in-Ok.ensures.thread) c.asking_step.ensures.thread

pub returns-then-not-has_stepped-clause-kept : goal.returns-then-not-has_stepped-clause-kept
returns-then-not-has_stepped-clause-kept c =
    let w = c.args.program.now in
    let m = c.args.mounted.now in
    let mid = c.running_move.new.state in
    let k = c.running_move.new.mounted in
    let x = c.asking_step in
    let asked = what_it_asks w c.running_move.new.progress c.args.state.now mid m k c.in-Ok.ensures.made (sym c.has_stepped.ensures ∙ c.if-not-has_stepped.true) in
    subst (λ (n : Continuation). IfOk (told_of x.result) (λ tried. StaysIfReading tried n x.new.mounted)) asked.1.mounted x.ensures.kept

pub returns-then-goes_on-clause-made : goal.returns-then-goes_on-clause-made
returns-then-goes_on-clause-made c = λ carriers n on from.
    let w = c.args.program.now in
    let m = c.args.mounted.now in
    let mid = c.running_move.new.state in
    let k = c.running_move.new.mounted in
    let made = the_step w c.running_move.new.progress c.args.state.now mid m k c.in-Ok.ensures.made (sym c.has_stepped.ensures ∙ c.if-not-has_stepped.false) in
    enters_running w carriers c.args.state.now c.args.deques.now on c.args.c m.thread n m.stack.frames from mid k.stack.frames made
    c.requires.runs (c.in-Ok.ensures.same c.if-same.true) (c.goes_on.ensures c.if-goes_on.true) c.args.now

pub end_step-requires-clause-thread : goal.end_step-requires-clause-thread
end_step-requires-clause-thread c =
    let w = c.args.program.now in
    let m = c.args.mounted.now in
    let mid = c.running_move.new.state in
    let k = c.running_move.new.mounted in
    let x = c.requires.from in
    let made = the_step w c.running_move.new.progress c.args.state.now mid m k c.in-Ok.ensures.made (sym c.has_stepped.ensures ∙ c.if-not-has_stepped.false) in
    subst (λ (u : ℕ). u < length mid.threads.threads) (sym c.thread-t.ensures)
    (step_below w x.carriers c.args.state.now c.args.deques.now x.on c.args.c m.thread x.local m.stack.frames x.from alone mid k.stack.frames made.0)

pub end_step-requires-clause-carrier : goal.end_step-requires-clause-carrier
end_step-requires-clause-carrier c =
    let m = c.args.mounted.now in
    let x = c.requires.from in
    step_carrier c.args.program.now x.carriers c.args.state.now c.args.deques.now x.on c.args.c m.thread x.local m.stack.frames x.from

pub returns-clause-made : goal.returns-clause-made
returns-clause-made c =
    let w = c.args.program.now in
    let m = c.args.mounted.now in
    let mid = c.running_move.new.state in
    let k = c.running_move.new.mounted in
    let left = c.end_step.new.deques in
    let made = the_step w c.running_move.new.progress c.args.state.now mid m k c.in-Ok.ensures.made (sym c.has_stepped.ensures ∙ c.if-not-has_stepped.false) in
    let tried = told_of c.end_step.result in
    let pick = picked_by c.end_step.result in
    concluded_so w alone c.args.state.now mid m c.args.deques.now left c.args.c c.args.now tried pick k.stack.frames made.0 (made.1 c.args.now)
    (subst (λ (t : ℕ). IfOk tried (IsConcluded w mid t k.stack.frames alone c.args.c c.args.deques.now left pick)) c.thread-t.ensures c.end_step.ensures)

pub returns-clause-kept : goal.returns-clause-kept
returns-clause-kept c =
    concluded_stays c.args.program.now c.running_move.new.state c.thread-t.result c.args.c c.running_move.new.mounted.stack.frames alone c.args.deques.now c.end_step.new.deques (picked_by c.end_step.result) c.args.mounted.now
    c.running_move.new.mounted (told_of c.end_step.result) c.end_step.ensures
