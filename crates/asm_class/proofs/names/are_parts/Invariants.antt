use Rattle.std.proofs.Common.{◌≡◌, false, drop}
use Rattle.descriptors.specs.Descriptors.{are_parts}
use Rattle.asm_class.proofs.names.are_parts.Given as goal

abbrev pub invariant-loop-byte : goal.invariant-loop-byte
invariant-loop-byte l = are_parts false l.name ≡ are_parts l.begun (drop l.byte-index l.name)
