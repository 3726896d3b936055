use Rattle.std.proofs.Common.{Option, subst}
use Rattle.vthread_state.specs.declared.phase.Phase.TheVariants.{Run}
use Rattle.interp_local.specs.declared.fetched.Fetched.{Fetched}
use Rattle.machine.specs.AtHand.{HasNext}
use Rattle.machine.proofs.entries.make_step.Goals as goal

pub running_step-requires-clause-runs : goal.running_step-requires-clause-runs
running_step-requires-clause-runs c =
    let m = c.args.mounted.now in
    (subst (λ (o : Option Fetched). HasNext c.args.program.now c.args.state.now m.thread m.stack.frames o) c.in-Some.is c.requires.next).0

pub running_step-requires-clause-next : goal.running_step-requires-clause-next
running_step-requires-clause-next c =
    let m = c.args.mounted.now in
    (subst (λ (o : Option Fetched). HasNext c.args.program.now c.args.state.now m.thread m.stack.frames o) c.in-Some.is c.requires.next).1

pub running_step-requires-clause-typed : goal.running_step-requires-clause-typed
running_step-requires-clause-typed c =
    let m = c.args.mounted.now in
    c.requires.typed Run (subst (λ (o : Option Fetched). HasNext c.args.program.now c.args.state.now m.thread m.stack.frames o) c.in-Some.is c.requires.next).0

pub returns-in-None : goal.returns-in-None
returns-in-None c = record {
  made = c.other_step.ensures.made c.args.now;
  thread = c.other_step.ensures.thread;
  kept = c.other_step.ensures.kept;
  cache = c.other_step.ensures.cache;
}
