use Rattle.program_state.proofs.TimeLaws.{least_earliest, none_earliest}
use Rattle.program_state.proofs.time.earliest.Goals as goal

pub returns-clause-none : goal.returns-clause-none
returns-clause-none c = none_earliest c.args.state.now c.earliest.result c.earliest.ensures.none

pub returns-clause-least : goal.returns-clause-least
returns-clause-least c = least_earliest c.args.state.now c.earliest.result c.earliest.ensures.least
