-- What becomes of a stack whose slots were lent.
use Rattle.std.specs.Prelude.{List}
use Rattle.std.specs.Borrow.{Lends, MutBor, Fml, Array}
use Rattle.instruction_rows.specs.declared.value.Slot.{Slot}
use Rattle.slot_block.specs.contracts.stored_slot.StoredSlot.{the_row as slot_row}
use Rattle.frames.specs.Frames.{with_all_slots}
use Rattle.frames.specs.declared.stack.Stack.{Stack}
use Rattle.frames.specs.contracts.stack.Stack.{the_row}

-- the stack has the slots that were left there
abbrev pub LendsSlots : MutBor Stack → MutBor (List Slot) → Fml
LendsSlots s r = Lends the_row (Array slot_row 0) s r (with_all_slots s.now)
