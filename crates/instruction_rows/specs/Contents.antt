-- What a frame holds, slot by slot (JVMS 2.6): the local variables by index, and the operand stack with the top
-- first. Slots and their types lie in the same way, so this serves both. A long or a double takes two slots: in local
-- variables its own and the one after, on the operand stack its own and the one above (JVMS 2.6.1, 2.6.2, 4.10.1.2).
use Rattle.std.specs.Prelude.{ℕ, suc, Bool, true, false, List, [], ◌∷◌, reverse, length, slice_set, nat_lt, Option, Some, None, if◌then◌else◌}
use Rattle.std.specs.List.{flat_map}
use Rattle.stack_maps.specs.declared.types.FrameTypes.{FrameTypes}
use Rattle.stack_maps.specs.declared.types.VType.{VType}
use Rattle.stack_maps.specs.declared.types.VType.TheVariants as types
use Rattle.instruction_rows.specs.declared.value.Value.{Value}
use Rattle.instruction_rows.specs.declared.value.Value.TheVariants as values
use Rattle.instruction_rows.specs.declared.value.Slot.{Slot}
use Rattle.instruction_rows.specs.declared.value.Slot.TheVariants as slots
use Rattle.items.specs.Options.{◌>>=◌}

pub record Contents (A : Type 0) : Type 0 where
  pub locals : List A
  pub stack : List A

-- the slots of a value as a local variable, the first index first; on the stack they lie the other way round
abbrev pub slots_of : Value → List Slot
slots_of (values.Long n) = slots.One (values.Long n) ∷ slots.Second ∷ []
slots_of v = slots.One v ∷ []

-- whether a type is that of a value in two slots (JVMS 2.11.1: category 2)
abbrev pub is_wide : VType → Bool
is_wide types.Long = true
is_wide types.Double = true
is_wide t = false

-- whether it is that of a value in one slot (JVMS 2.11.1: category 1)
abbrev pub is_narrow : VType → Bool
is_narrow types.Top = false
is_narrow types.Long = false
is_narrow types.Double = false
is_narrow t = true

-- the types of the slots of one type
abbrev pub types_of : VType → List VType
types_of t = if is_wide t then t ∷ types.Top ∷ [] else t ∷ []

-- types as a map has them, one for each value, slot by slot (JVMS 4.10.1.2)
abbrev pub slot_types : List VType → List VType
slot_types ts = flat_map types_of ts

-- the types at a frame of a map, without the local variables after the last that it names
abbrev pub contents_of : FrameTypes → Contents VType
contents_of f = record { locals = slot_types f.locals; stack = reverse (slot_types f.stack) }

-- the list with another item at an index, undefined past the end
abbrev pub with_item : {A : Type 0} → ℕ → A → List A → Option (List A)
with_item n x xs = if nat_lt n (length xs) then Some (slice_set xs n x) else None

-- the list with other items from an index on, undefined where they pass the end
abbrev pub with_items : {A : Type 0} → ℕ → List A → List A → Option (List A)
with_items n [] xs = Some xs
with_items n (item ∷ items) xs = with_item n item xs >>= λ ys. with_items (suc n) items ys
