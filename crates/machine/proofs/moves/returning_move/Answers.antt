use Rattle.vthread_state.specs.declared.phase.Phase.TheVariants.{Run}
use Rattle.thread_steps.specs.States.{memory_of}
use Rattle.machine.proofs.MoveLaws.{leaving_moves, quiet_in_time, quiet_yields, return_quiet, with_others}
use Rattle.machine.proofs.moves.returning_move.Goals as goal

pub returns-clause-made : goal.returns-clause-made
returns-clause-made c =
    let w = c.args.program.now in
    let m = c.args.mounted.now in
    let old = c.args.state.now in
    let new = c.make_return.new.state in
    let outcome = c.in_ok-outcome.outcome in
    let quiet = return_quiet w c.args.q (memory_of old.memory) m.stack.frames c.requires.returns in (
      with_others w c.after_leaving.result _ m.thread old new m.stack.frames c.make_return.new.mounted.stack.frames c.after_leaving.ensures
          (leaving_moves w outcome Run m.thread old new m.stack.frames c.make_return.new.mounted.stack.frames c.requires.runs c.in_ok-outcome.ensures.lists
          c.in_ok-outcome.ensures.made (λ r out is h. quiet_yields w old r out m.thread m.stack.frames is h quiet)),
      λ now. quiet_in_time w now m.thread old m.stack.frames c.requires.runs quiet,
    )
