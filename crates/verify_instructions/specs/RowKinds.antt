-- Rows by what they change.
use Rattle.std.specs.Prelude.{Bool, true, false}
use Rattle.instruction_rows.specs.Rows.{Row, local, event, new}

-- whether a row reads and writes its own frame alone
abbrev pub is_local : Row → Bool
is_local (local r) = true
is_local r = false

-- whether a row is an event that changes only the operand stack: each but `new`
abbrev pub is_stack_event : Row → Bool
is_stack_event (event (new index)) = false
is_stack_event (event e) = true
is_stack_event r = false
