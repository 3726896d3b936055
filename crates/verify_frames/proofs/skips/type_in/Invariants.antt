-- The node lies on the path.
use Rattle.type_paths.specs.Paths.{IsAbove}
use Rattle.verify_frames.proofs.skips.type_in.Given as goal

abbrev pub invariant-loop : goal.invariant-loop
invariant-loop l = IsAbove l.paths l.from l.node
