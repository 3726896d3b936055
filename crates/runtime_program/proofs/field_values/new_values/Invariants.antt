use Rattle.std.proofs.Common.{◌≡◌, map, take}
use Rattle.ref_model.specs.Members.{field_zero}
use Rattle.runtime_program.proofs.field_values.new_values.Given as goal

abbrev pub invariant-loop-n : goal.invariant-loop-n
invariant-loop-n l = l.values.items ≡ map (field_zero l.tables) (take l.n-index l.n-items)
