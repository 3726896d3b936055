use Rattle.std.proofs.Common.{List, ℕ, false, refl, subst, sym}
use Rattle.std.specs.Prelude.{IfOk}
use Rattle.vthread_state.specs.declared.phase.Phase.TheVariants.{Throwing}
use Rattle.state_model.specs.Frames.{Frame}
use Rattle.thread_steps.specs.Returning.{ThrowsFrom}
use Rattle.thread_steps.specs.States.{memory_of}
use Rattle.thread_steps.specs.declared.throwing.Thrown.{Thrown}
use Rattle.program_state.specs.declared.state.ProgramState.{ProgramState}
use Rattle.program_state.specs.Throwing.{IsThrown}
use Rattle.machine.specs.AtHand.{IsAt}
use Rattle.machine.specs.Moves.{MovesAtAnyTime}
use Rattle.machine.specs.declared.made.Others.TheVariants as moves
use Rattle.machine.proofs.MoveLaws.{moves_by, off_in_time, off_yields, same_lists, stay_steps}
use Rattle.machine.proofs.moves.throwing_move.Goals as goal

pub returns-in-Stepped-clause-made : goal.returns-in-Stepped-clause-made
returns-in-Stepped-clause-made c =
    let w = c.args.program.now in
    let m = c.args.mounted.now in
    let n = c.throwing_step.new.mounted in
    let old = c.args.state.now in
    let new = c.throwing_step.new.state in
    let steps = subst (λ (x : Thrown). IsThrown w c.args.o x old m new n) c.in-Stepped.is c.in_ok-throwing_step.ensures.thrown in (
      moves_by w (record { others = moves.Stay; yields = false }) m.thread (Throwing c.args.o) old new m.stack.frames n.stack.frames c.requires.throws refl
          (same_lists old.monitors new.monitors c.throwing_step.ensures.monitors)
          (stay_steps w (Throwing c.args.o) m.thread old new m.stack.frames n.stack.frames steps)
          (λ r out is h. off_yields w r m.thread (Throwing c.args.o) m.stack.frames refl h),
      λ now. off_in_time w now m.thread (Throwing c.args.o) old m.stack.frames refl c.requires.throws,
    )

pub leaving_move-requires-clause-throws : goal.leaving_move-requires-clause-throws
leaving_move-requires-clause-throws c =
    let w = c.args.program.now in
    let m = c.args.mounted.now in
    let n = c.throwing_step.new.mounted in
    let old = c.args.state.now in
    let new = c.throwing_step.new.state in
    let held = subst (λ (x : Thrown). IsThrown w c.args.o x old m new n) c.in-Holds.is c.in_ok-throwing_step.ensures.thrown in
    subst (λ (s : ProgramState). IsAt s n.thread (Throwing c.args.o)) (sym held.state)
    (subst (λ (t : ℕ). IsAt old t (Throwing c.args.o)) (sym c.in_ok-throwing_step.ensures.thread) c.requires.throws)

pub leaving_move-requires-clause-leaves : goal.leaving_move-requires-clause-leaves
leaving_move-requires-clause-leaves c =
    let w = c.args.program.now in
    let m = c.args.mounted.now in
    let n = c.throwing_step.new.mounted in
    let old = c.args.state.now in
    let new = c.throwing_step.new.state in
    let q = c.in-Holds.q in
    let held = subst (λ (x : Thrown). IsThrown w c.args.o x old m new n) c.in-Holds.is c.in_ok-throwing_step.ensures.thrown in
    subst (λ (s : ProgramState). ThrowsFrom w q c.args.o (memory_of s.memory) n.stack.frames) (sym held.state)
    (subst (λ (fs : List Frame). ThrowsFrom w q c.args.o (memory_of old.memory) fs) (sym held.frames) held.throws)

pub returns-in-Holds-clause-made : goal.returns-in-Holds-clause-made
returns-in-Holds-clause-made c =
    let w = c.args.program.now in
    let m = c.args.mounted.now in
    let n = c.throwing_step.new.mounted in
    let old = c.args.state.now in
    let mid = c.throwing_step.new.state in
    let x = c.leaving_move in
    let held = subst (λ (x : Thrown). IsThrown w c.args.o x old m mid n) c.in-Holds.is c.in_ok-throwing_step.ensures.thrown in
    subst (λ (t : ℕ). IfOk x.result (λ made. MovesAtAnyTime w made t old m.stack.frames x.new.state x.new.mounted.stack.frames)) c.in_ok-throwing_step.ensures.thread
    (subst (λ (s : ProgramState). IfOk x.result (λ made. MovesAtAnyTime w made n.thread s m.stack.frames x.new.state x.new.mounted.stack.frames)) held.state
    (subst (λ (fs : List Frame). IfOk x.result (λ made. MovesAtAnyTime w made n.thread mid fs x.new.state x.new.mounted.stack.frames)) held.frames x.ensures.made))
