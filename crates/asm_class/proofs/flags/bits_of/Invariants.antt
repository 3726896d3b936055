use Rattle.std.proofs.Common.{◌≡◌, drop}
use Rattle.asm_class.specs.Flags.{bits_with}
use Rattle.asm_class.proofs.flags.bits_of.Given as goal

abbrev pub invariant-loop-flag : goal.invariant-loop-flag
invariant-loop-flag l = bits_with 0 l.flags ≡ bits_with l.bits (drop l.flag-index l.flags)
