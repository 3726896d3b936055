use Rattle.std.proofs.Common.{◌≡◌, ◌≤◌, drop}
use Rattle.asm_text.specs.Numbers.{digits_from}
use Rattle.asm_text.proofs.number.digits_of.Given as goal

abbrev pub invariant-loop-digit : goal.invariant-loop-digit
invariant-loop-digit l = (digits_from l.most l.number (drop l.digit-index l.digits) ≡ digits_from l.most 0 l.digits) × (l.number ≤ l.most)
