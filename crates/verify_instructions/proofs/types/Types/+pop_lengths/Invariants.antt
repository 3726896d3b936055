use Rattle.verify_instructions.proofs.types.Types.+pop_lengths.Given as goal

abbrev pub decreases-pop_lengths : goal.decreases-pop_lengths
decreases-pop_lengths l = l.lengths
