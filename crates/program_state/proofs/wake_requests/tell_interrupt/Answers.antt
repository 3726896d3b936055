use Rattle.program_state.proofs.WakeLaws.{interrupt_told}
use Rattle.program_state.proofs.wake_requests.tell_interrupt.Goals as goal

pub returns : goal.returns
returns c w t = interrupt_told w t c.args.u c.args.state.now c.is_interrupted.result c.tell.result c.is_interrupted.ensures c.tell.ensures
