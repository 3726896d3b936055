-- The frame of a method that was invoked and hasn't returned (JVMS 2.6).
use Rattle.std.specs.Prelude.{ℕ, List}
use Rattle.instruction_rows.specs.declared.value.Slot.{Slot}

-- The method's number and the pc of its instruction; the local variables by index; the operand stack with the top first,
-- and how many slots it may have: the method's max_stack (JVMS 4.7.3).
pub record Frame : Type 0 where
  pub method : ℕ
  pub pc : ℕ
  pub locals : List Slot
  pub stack : List Slot
  pub room : ℕ
