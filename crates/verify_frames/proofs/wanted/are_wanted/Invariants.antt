-- So it is up to this node.
use Rattle.std.proofs.Common.{ℕ, ◌<◌}
use Rattle.verify_frames.specs.Wanted.{IsWantedAt}
use Rattle.verify_frames.proofs.wanted.are_wanted.Given as goal

abbrev pub invariant-loop-n : goal.invariant-loop-n
invariant-loop-n l = (k : ℕ) → k < l.n → IsWantedAt l.paths l.nodes l.wanted k
