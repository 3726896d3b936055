-- A block of slots: the slots in order, and how many more it can take without new memory.
use Rattle.std.specs.Prelude.{ℕ, List}
use Rattle.instruction_rows.specs.declared.value.Slot.{Slot}

pub record Block : Type 0 where
  pub slots : List Slot
  pub spare : ℕ
