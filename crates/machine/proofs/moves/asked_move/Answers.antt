use Rattle.std.proofs.Common.{subst}
use Rattle.thread_steps.specs.declared.progress.Progress.{Progress}
use Rattle.machine.specs.Moves.{IsAsked}
use Rattle.machine.proofs.moves.asked_move.Goals as goal

pub asking_move-requires-clause-asks : goal.asking_move-requires-clause-asks
asking_move-requires-clause-asks c =
    subst (λ (p : Progress). IsAsked c.args.program.now p c.args.state.now.memory c.args.mounted.now.stack.frames) c.in-Asks.is c.requires.asked

pub calling_move-requires-clause-calls : goal.calling_move-requires-clause-calls
calling_move-requires-clause-calls c =
    subst (λ (p : Progress). IsAsked c.args.program.now p c.args.state.now.memory c.args.mounted.now.stack.frames) c.in-Calls.is c.requires.asked

pub returning_move-requires-clause-returns : goal.returning_move-requires-clause-returns
returning_move-requires-clause-returns c =
    subst (λ (p : Progress). IsAsked c.args.program.now p c.args.state.now.memory c.args.mounted.now.stack.frames) c.in-Returns.is c.requires.asked

pub returns-in_ok-made-in-Calls-clause-made : goal.returns-in_ok-made-in-Calls-clause-made
returns-in_ok-made-in-Calls-clause-made c = let is = (c.in_ok-made-in-Calls).ensures.made in (is.0, is.1 c.args.now)

pub returns-in_ok-made-in-Returns-clause-made : goal.returns-in_ok-made-in-Returns-clause-made
returns-in_ok-made-in-Returns-clause-made c = let is = (c.in_ok-made-in-Returns).ensures.made in (is.0, is.1 c.args.now)
