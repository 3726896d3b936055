use Rattle.std.proofs.Common.{arith}
use Rattle.frames.proofs.SeenLaws.{bounds}
use Rattle.frames.proofs.stack.Stack.fits.Goals as goal

pub end-requires : goal.end-requires
end-requires c =
    let b = bounds c.self.inside _ c.self.invariant c.self.view_is in
    omega arith

pub overflow_sub-spare : goal.overflow_sub-spare
overflow_sub-spare c =
    let b = bounds c.self.inside _ c.self.invariant c.self.view_is in
    omega arith
