use Rattle.std.proofs.Common.{sym, ◌∙◌}
use Rattle.carrier_turns.proofs.ActLaws.{on_by_local, thread_mounted}
use Rattle.carrier_turns.proofs.mounted_steps.is_off.Goals as goal

pub returns-then-is_some-clause-on : goal.returns-then-is_some-clause-on
returns-then-is_some-clause-on c = λ is.
    on_by_local c.args.machine.now c.args.carrier c.args.thread c.args.hand.now c.requires.may c.requires.mounted (sym c.is_some.ensures ∙ c.if-is_some.true)

pub is_enabled-requires-clause-mounted : goal.is_enabled-requires-clause-mounted
is_enabled-requires-clause-mounted c = thread_mounted c.args.machine.now c.args.carrier c.args.thread c.args.hand.now c.requires.may c.requires.mounted
