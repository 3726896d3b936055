use Rattle.frames.proofs.SeenLaws.{bounds}
use Rattle.frames.proofs.stack.Stack.operand_room.Goals as goal

pub overflow_sub-result : goal.overflow_sub-result
overflow_sub-result c = (bounds c.self.inside _ c.self.invariant c.self.view_is).held

pub returns : goal.returns
returns c = (bounds c.self.inside _ c.self.invariant c.self.view_is).left
