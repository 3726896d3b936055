use Rattle.verify_frames.specs.Skips.{AreSkips}
use Rattle.verify_frames.proofs.skips.skips_of.Given as goal

abbrev pub invariant-loop : goal.invariant-loop
invariant-loop l = AreSkips l.paths l.skips.items
