-- Slots that lie one after the other in a list.
use Rattle.std.specs.Prelude.{ℕ, zero, suc, ◌+◌, List, [], ◌∷◌}
use Rattle.std.specs.Prelude.{slice_index_or}
use Rattle.instruction_rows.specs.declared.value.Slot.{Slot}
use Rattle.instruction_rows.specs.declared.value.Slot.TheVariants.{Second}

-- the slot at an index
abbrev pub slot_at : List Slot → ℕ → Slot
slot_at slots i = slice_index_or slots i Second

-- a number of slots from an index on
abbrev pub ascending : List Slot → ℕ → ℕ → List Slot
ascending slots from zero = []
ascending slots from (suc n) = slot_at slots from ∷ ascending slots (suc from) n

-- the same, the last one first
abbrev pub descending : List Slot → ℕ → ℕ → List Slot
descending slots from zero = []
descending slots from (suc n) = slot_at slots (from + n) ∷ descending slots from n
