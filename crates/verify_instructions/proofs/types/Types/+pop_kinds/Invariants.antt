use Rattle.std.proofs.Common.{length}
use Rattle.verify_instructions.proofs.types.Types.+pop_kinds.Given as goal

abbrev pub decreases-pop_kinds : goal.decreases-pop_kinds
decreases-pop_kinds l = length l.kinds.now
