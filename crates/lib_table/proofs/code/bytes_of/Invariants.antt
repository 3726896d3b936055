use Rattle.std.proofs.Common.{◌≡◌, [], take}
use Rattle.std.specs.List.{fold}
use Rattle.lib_table.specs.Instructions.{meaning}
use Rattle.lib_table.specs.Build as spec
use Rattle.lib_table.proofs.code.bytes_of.Given as goal

abbrev pub invariant-loop-instruction : goal.invariant-loop-instruction
invariant-loop-instruction l = (l.code.items, l.pool) ≡ fold (λ done i. spec.with_instruction done (meaning i)) ([], l.fn.pool) (take l.instruction-index l.instructions)
