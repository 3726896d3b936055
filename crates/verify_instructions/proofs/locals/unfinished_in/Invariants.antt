use Rattle.std.proofs.Common.{◌≡◌, ℕ, ◌<◌, true}
use Rattle.verify_instructions.specs.Unfinished.{is_listed, is_unfinished, type_at}
use Rattle.verify_instructions.proofs.locals.unfinished_in.Given as goal

abbrev pub invariant-loop-slot : goal.invariant-loop-slot
invariant-loop-slot l = (k : ℕ) → k < l.slot → is_unfinished (type_at l.types k) ≡ true → is_listed l.slots.items k ≡ true
