use Rattle.program_state.proofs.WakeLaws.{interrupt_cleared}
use Rattle.program_state.proofs.wake_requests.clear_interrupt.Goals as goal

pub returns-clause-answers : goal.returns-clause-answers
returns-clause-answers c w = interrupt_cleared w c.args.t c.args.state.now c.take_interrupt.new.wakes c.in_ok-interrupted.interrupted c.tell.result c.in_ok-interrupted.ensures c.tell.ensures
