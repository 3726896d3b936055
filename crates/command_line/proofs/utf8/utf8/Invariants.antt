use Rattle.std.proofs.Common.{length, drop, string_bytes, ◌-◌, ◌≡◌, ◌++◌}
use Rattle.command_line.specs.Answers.{utf8_of}
use Rattle.command_line.proofs.utf8.utf8.Given as goal

abbrev pub invariant-loop-at : goal.invariant-loop-at
invariant-loop-at l = string_bytes l.text ++ utf8_of (drop l.at l.units) ≡ utf8_of l.units

abbrev pub decreases-loop-at : goal.decreases-loop-at
decreases-loop-at l = length l.units - l.at
