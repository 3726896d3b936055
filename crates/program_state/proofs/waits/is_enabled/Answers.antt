use Rattle.program_state.proofs.WaitLaws.{tells_enabled}
use Rattle.program_state.proofs.waits.is_enabled.Goals as goal

pub returns : goal.returns
returns c = tells_enabled c.args.state.now c.args.t c.row.result c.status_goes_on.result c.row.ensures c.status_goes_on.ensures
