-- What the tables of a method say, without the tables beside them.
use Rattle.std.specs.Prelude.{ℕ, Bool, List, Option, find, nat_le, nat_lt, ◌==◌, ◌&&◌}
use Rattle.std.specs.Option.{option_and_then}
use Rattle.class_model.specs.declared.attribute.Row.{Row}
use Rattle.verify_types.specs.Environment.{Instruction}
use Rattle.verify_types.specs.Calls.{made_by}

-- the class of the `new` at a pc
abbrev pub new_at : ℕ → List Instruction → Option ℕ
new_at pc is = option_and_then (λ (i : Instruction). made_by i.instr.op i.resolution.site) (find (λ (i : Instruction). i.instr.pc == pc) is)

-- the pc lies in the range of the row
abbrev pub is_row_covered : ℕ → Row → Bool
is_row_covered pc r = nat_le r.start pc && nat_lt pc r.end
