use Rattle.std.proofs.Common.{arith}
use Rattle.frames.proofs.SeenLaws.{bounds}
use Rattle.frames.proofs.stack.Stack.operands_fit.Goals as goal

pub returns : goal.returns
returns c =
    let b = bounds c.self.inside _ c.self.invariant c.self.view_is in
    omega arith
