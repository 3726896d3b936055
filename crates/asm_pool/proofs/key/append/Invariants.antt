use Rattle.std.proofs.Common.{◌≡◌, ◌++◌, take}
use Rattle.asm_pool.proofs.key.append.Given as goal

abbrev pub invariant-loop-byte : goal.invariant-loop-byte
invariant-loop-byte l = l.units.items ≡ l.initial.units.items ++ take l.byte-index l.bytes
