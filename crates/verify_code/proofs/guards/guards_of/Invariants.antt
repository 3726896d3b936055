use Rattle.std.proofs.Common.{length}
use Rattle.verify_code.proofs.GuardLaws.{Gathered}
use Rattle.verify_code.proofs.guards.guards_of.Given as goal

abbrev pub invariant-loop-row : goal.invariant-loop-row
invariant-loop-row l = Gathered l.rows l.catches l.guards.items l.last l.rest l.left

abbrev pub decreases-loop-row : goal.decreases-loop-row
decreases-loop-row l = length l.rest
