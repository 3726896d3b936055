use Rattle.std.proofs.Common.{length}
use Rattle.type_paths.specs.Paths.{path}
use Rattle.verify_frames.proofs.NearLaws.{Walked}
use Rattle.verify_frames.proofs.near.types_above.Given as goal

abbrev pub invariant-loop-node : goal.invariant-loop-node
invariant-loop-node l = Walked (path l.paths l.from) (path l.paths l.node) l.types.items

abbrev pub decreases-loop-node : goal.decreases-loop-node
decreases-loop-node l = length (path l.paths l.node)
