use Rattle.std.proofs.Common.{◌≡◌, ◌+◌, ◌≤◌, ◌++◌, take, vec_len, length}
use Rattle.std.specs.Vec.{vec_capacity}
use Rattle.slot_block.proofs.block.SlotBlock.copy_top.Given as goal

abbrev pub invariant-loop-slot : goal.invariant-loop-slot
invariant-loop-slot l =
    (l.into-inside.slots.items ≡ l.initial.into-inside.slots.items ++ take l.slot-index l.slot-items)
    × (vec_capacity l.into-inside.slots ≡ vec_capacity l.initial.into-inside.slots)
    × (vec_len l.into-inside.slots ≡ vec_len l.initial.into-inside.slots + l.slot-index)
    × (vec_len l.initial.into-inside.slots + l.slots ≤ vec_capacity l.initial.into-inside.slots)
    × (length l.slot-items ≡ l.slots)
