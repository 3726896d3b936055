use Rattle.std.proofs.Common.{refl, ◌∙◌}
use Rattle.ref_model.specs.State.{is_interrupted}
use Rattle.machine.proofs.MoveLaws.{monitor_moves, pending_yields, with_others}
use Rattle.machine.proofs.moves.monitor_move.Goals as goal

pub returns-clause-made : goal.returns-clause-made
returns-clause-made c =
    let w = c.args.program.now in
    let m = c.args.mounted.now in
    let old = c.args.state.now in
    let new = c.make_monitor_request.new.state in
    let after = c.make_monitor_request.new.mounted.stack.frames in
    with_others w c.after_request.result _ m.thread old new m.stack.frames after c.after_request.ensures
    (monitor_moves w c.in_ok-outcome.outcome m.thread old new m.stack.frames after c.requires.runs c.in_ok-outcome.ensures.lists c.in_ok-outcome.ensures.made
    (λ r out is h.
    pending_yields w c.args.pending old r out m.thread m.stack.frames (is_interrupted r m.thread) is h c.requires.asks refl ∙ c.requires.never (is_interrupted r m.thread)))
