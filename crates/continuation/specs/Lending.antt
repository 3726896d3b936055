-- What becomes of a continuation whose slots were lent.
use Rattle.std.specs.Prelude.{List}
use Rattle.std.specs.Borrow.{Lends, MutBor, Fml, Array}
use Rattle.instruction_rows.specs.declared.value.Slot.{Slot}
use Rattle.slot_block.specs.contracts.stored_slot.StoredSlot.{the_row as slot_row}
use Rattle.frames.specs.Frames.{with_all_slots}
use Rattle.continuation.specs.Continuation.{Continuation}
use Rattle.continuation.specs.declared.mounted.Mounted.{Mounted}
use Rattle.continuation.specs.contracts.mounted.Mounted.{the_row}

-- a continuation with other slots
abbrev pub with_slots : Continuation → List Slot → Continuation
with_slots m slots = record m { stack = with_all_slots m.stack slots }

abbrev pub LendsSlots : MutBor Mounted → MutBor (List Slot) → Fml
LendsSlots s r = Lends the_row (Array slot_row 0) s r (with_slots s.now)
