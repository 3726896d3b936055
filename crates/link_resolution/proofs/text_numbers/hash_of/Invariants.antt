use Rattle.std.proofs.Common.{◌≡◌, length}
use Rattle.link_resolution.specs.TextNumbers.{hash_from, hash_of}
use Rattle.link_resolution.proofs.text_numbers.hash_of.Given as goal

abbrev pub invariant-loop-left : goal.invariant-loop-left
invariant-loop-left l = hash_of l.text ≡ hash_from l.hash l.left

abbrev pub decreases-loop-left : goal.decreases-loop-left
decreases-loop-left l = length l.left
