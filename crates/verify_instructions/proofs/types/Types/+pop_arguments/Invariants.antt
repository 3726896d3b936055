use Rattle.std.proofs.Common.{length}
use Rattle.verify_instructions.proofs.types.Types.+pop_arguments.Given as goal

abbrev pub decreases-pop_arguments : goal.decreases-pop_arguments
decreases-pop_arguments g l = length l.args.now
