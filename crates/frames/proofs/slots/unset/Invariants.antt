use Rattle.std.proofs.Common.{ℕ, ◌≡◌, ◌<◌, ◌≤◌, drop, vec_len}
use Rattle.instruction_rows.specs.declared.value.Slot.TheVariants.{Second}
use Rattle.frames.specs.Slots.{slot_at}
use Rattle.frames.proofs.slots.unset.Given as goal

abbrev pub invariant-loop-i : goal.invariant-loop-i
invariant-loop-i l =
    (vec_len l.slots ≡ vec_len l.initial.slots)
    × ((k : ℕ) → k < l.from → slot_at l.slots.items k ≡ slot_at l.initial.slots.items k)
    × ((k : ℕ) → l.from ≤ k → k < l.i → slot_at l.slots.items k ≡ Second)
    × (drop l.to l.slots.items ≡ drop l.to l.initial.slots.items)
