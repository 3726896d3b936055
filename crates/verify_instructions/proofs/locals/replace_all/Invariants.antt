use Rattle.std.proofs.Common.{◌≡◌, length}
use Rattle.verify_instructions.specs.Unfinished.{replaced_among}
use Rattle.verify_instructions.specs.Views.{is_object}
use Rattle.verify_instructions.proofs.locals.replace_all.Given as goal

abbrev pub invariant-loop-slot : goal.invariant-loop-slot
invariant-loop-slot l = replaced_among (is_object l.object) l.t l.rest l.types ≡ replaced_among (is_object l.object) l.t l.slots l.fn.types

abbrev pub decreases-loop-slot : goal.decreases-loop-slot
decreases-loop-slot l = length l.rest
