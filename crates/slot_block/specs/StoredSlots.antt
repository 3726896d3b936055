-- The slot that is stored as a kind and a word.
use Rattle.std.specs.Prelude.{ℕ, ◌≡◌, ◌<◌, ◌^◌, refl}
use Rattle.std.specs.Int.{w32, w64, cast_signed, cast_unsigned}
use Rattle.std.proofs.Common.{ap, sym}
use Rattle.std.proofs.lemmas.Int.{of_z-to_z}
use Rattle.instruction_rows.specs.declared.value.Value.TheVariants as values
use Rattle.instruction_rows.specs.declared.value.Slot.{Slot}
use Rattle.instruction_rows.specs.declared.value.Slot.TheVariants.{One, Second}
use Rattle.slot_block.specs.declared.stored_slot.StoredKind.{StoredKind}
use Rattle.slot_block.specs.declared.stored_slot.StoredKind.TheVariants as kinds
use Rattle.slot_block.specs.declared.stored_slot.StoredSlot.TheInside.{Inside}

-- the slot of a kind and a word: an int is the low 32 bits, with its sign
abbrev pub slot_of : StoredKind → ℕ → Slot
slot_of kinds.Int w = One (values.Int (cast_signed w32 w))
slot_of kinds.Long w = One (values.Long (cast_signed w64 w))
slot_of kinds.Null w = One values.Null
slot_of kinds.Ref w = One (values.Ref w)
slot_of kinds.Second w = Second

abbrev pub seen : Inside → Slot
seen c = slot_of c.kind c.word

-- the words that a kind may have
abbrev pub IsWord : StoredKind → ℕ → Type 0
IsWord kinds.Int w = w < 2 ^ 32
IsWord kinds.Long w = w < 2 ^ 64
IsWord kinds.Null w = w ≡ 0
IsWord kinds.Ref w = w < 2 ^ 32
IsWord kinds.Second w = w ≡ 0

abbrev pub IsStored : Inside → Type 0
IsStored c = IsWord c.kind c.word

-- a slot as it is stored
abbrev pub hidden : Slot → Inside
hidden (One (values.Int z)) = record { kind = kinds.Int; word = cast_unsigned w32 z }
hidden (One (values.Long z)) = record { kind = kinds.Long; word = cast_unsigned w64 z }
hidden (One values.Null) = record { kind = kinds.Null; word = 0 }
hidden (One (values.Ref n)) = record { kind = kinds.Ref; word = n }
hidden Second = record { kind = kinds.Second; word = 0 }

abbrev pub stored_of : StoredKind → ℕ → Inside
stored_of k w = record { kind = k; word = w }

pub hidden-slot_of : (k : StoredKind) (w : ℕ) → IsWord k w → hidden (slot_of k w) ≡ stored_of k w
hidden-slot_of kinds.Int w h = ap (stored_of kinds.Int) (of_z-to_z w32 w h)
hidden-slot_of kinds.Long w h = ap (stored_of kinds.Long) (of_z-to_z w64 w h)
hidden-slot_of kinds.Null w h = ap (stored_of kinds.Null) (sym h)
hidden-slot_of kinds.Ref w h = refl
hidden-slot_of kinds.Second w h = ap (stored_of kinds.Second) (sym h)

pub hidden-seen : (c : Inside) → IsStored c → hidden (seen c) ≡ c
hidden-seen c h = hidden-slot_of c.kind c.word h
