use Rattle.std.proofs.Common.{refl}
use Rattle.vthread_state.specs.declared.phase.Phase.TheVariants.{Throwing}
use Rattle.machine.proofs.MoveLaws.{leaving_moves, off_in_time, off_yields, with_others}
use Rattle.machine.proofs.moves.leaving_move.Goals as goal

pub returns-clause-made : goal.returns-clause-made
returns-clause-made c =
    let w = c.args.program.now in
    let m = c.args.mounted.now in
    let old = c.args.state.now in
    let new = c.leave_throw.new.state in
    let outcome = c.in_ok-outcome.outcome in (
      with_others w c.after_leaving.result _ m.thread old new m.stack.frames c.leave_throw.new.mounted.stack.frames c.after_leaving.ensures
          (leaving_moves w outcome (Throwing c.args.o) m.thread old new m.stack.frames c.leave_throw.new.mounted.stack.frames c.requires.throws c.in_ok-outcome.ensures.lists
          c.in_ok-outcome.ensures.made (λ r out is h. off_yields w r m.thread (Throwing c.args.o) m.stack.frames refl h)),
      λ now. off_in_time w now m.thread (Throwing c.args.o) old m.stack.frames refl c.requires.throws,
    )
