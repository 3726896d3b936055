-- These and what is left of the rows ask what all do.
use Rattle.std.proofs.Common.{◌++◌, length}
use Rattle.std.specs.Prelude.{map}
use Rattle.verify_code.specs.Guards.{guard_in}
use Rattle.verify_code.specs.Merged.{AskSame}
use Rattle.verify_code.proofs.environment.Environment.merged.Given as goal

abbrev pub invariant-loop-guard : goal.invariant-loop-guard
invariant-loop-guard g l = AskSame l.self (map guard_in l.merged.guards.items ++ map guard_in l.rest) l.self.handlers

abbrev pub decreases-loop-guard : goal.decreases-loop-guard
decreases-loop-guard g l = length l.rest
