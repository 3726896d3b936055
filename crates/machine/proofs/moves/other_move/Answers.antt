use Rattle.std.proofs.Common.{ℕ, subst, sym, ◌∙◌}
use Rattle.machine.specs.AtHand.{IsAt}
use Rattle.machine.proofs.MoveLaws.{line_typed, waiting_typed}
use Rattle.machine.proofs.moves.other_move.Goals as goal

pub waiting_move-requires-clause-typed : goal.waiting_move-requires-clause-typed
waiting_move-requires-clause-typed c =
    let phase = c.phase-phase.result in
    waiting_typed c.args.program.now c.args.mounted.now.stack.frames phase (sym c.is_waiting.ensures ∙ c.if-not-is_waiting.false)
    (c.requires.typed phase (subst (λ (u : ℕ). IsAt c.args.state.now u phase) c.thread.ensures c.phase-phase.ensures))

pub entering_move-requires-clause-typed : goal.entering_move-requires-clause-typed
entering_move-requires-clause-typed c =
    let phase = c.phase-phase.result in
    line_typed c.args.program.now c.args.mounted.now.stack.frames phase (sym c.is_in_line.ensures ∙ c.if-is_in_line.true)
    (c.requires.typed phase (subst (λ (u : ℕ). IsAt c.args.state.now u phase) c.thread.ensures c.phase-phase.ensures))
