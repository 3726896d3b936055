use Rattle.verify_frames.specs.Flags.{AreFlagged}
use Rattle.verify_frames.proofs.flags.flags_of.Given as goal

abbrev pub invariant-loop : goal.invariant-loop
invariant-loop l = AreFlagged l.paths l.flags.items
