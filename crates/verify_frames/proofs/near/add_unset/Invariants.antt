use Rattle.verify_frames.specs.Near.{Unsets}
use Rattle.verify_frames.proofs.near.add_unset.Given as goal

abbrev pub invariant-loop-slot : goal.invariant-loop-slot
invariant-loop-slot l = Unsets l.fn.types.items l.types.items l.from l.slot
