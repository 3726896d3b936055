use Rattle.std.proofs.Common.{refl}
use Rattle.carrier_turns.specs.Steps.{not_awaited}
use Rattle.carrier_turns.proofs.turns.least_time.Goals as goal

pub returns-then-not-is_awaited-clause-reached : goal.returns-then-not-is_awaited-clause-reached
returns-then-not-is_awaited-clause-reached c = not_awaited (c.is_awaited.ensures.no c.if-not-is_awaited.true) refl refl

pub returns-else-let_time_go_on-clause-over : goal.returns-else-let_time_go_on-clause-over
returns-else-let_time_go_on-clause-over c = c.let_time_go_on.ensures.over c.if-let_time_go_on.false
