-- What all of them take, those that are left take.
use Rattle.std.proofs.Common.{◌≡◌, true, Bool, length}
use Rattle.std.specs.List.{list_all}
use Rattle.verify_frames.specs.declared.wanted.Want.{Want}
use Rattle.verify_frames.proofs.wanted.serve.Given as goal

abbrev pub invariant-loop-want : goal.invariant-loop-want
invariant-loop-want l = (test : Want → Bool) → list_all test l.wants ≡ true → list_all test l.rest ≡ true

abbrev pub decreases-loop-want : goal.decreases-loop-want
decreases-loop-want l = length l.rest
