-- Operands as an instruction takes them (JVMS 2.6.2), and what becomes of a thread whose operand stack alone changes.
use Rattle.std.specs.Prelude.{ℕ, ◌≡◌, ◌+◌, ◌<◌, ◌≤◌, List, Some, drop, length}
use Rattle.opcodes.specs.declared.op.ValueKind.{ValueKind}
use Rattle.instruction_rows.specs.declared.value.Slot.{Slot}
use Rattle.instruction_rows.specs.declared.value.Value.{Value}
use Rattle.instruction_rows.specs.Kinds.{Of, value}
use Rattle.instruction_rows.specs.SlotEffect.{popped}
use Rattle.link_model.specs.declared.members.FieldInfo.{FieldInfo}
use Rattle.ref_model.specs.Kinds.{value_kind}
use Rattle.ref_model.specs.Fields.{stored}
use Rattle.ref_model.specs.Operands.{width}
use Rattle.frames.specs.Frames.{top_stack, top_room, with_stack}
use Rattle.continuation.specs.Continuation.{Continuation}

-- the operands of the top frame, the top first
abbrev pub operands : Continuation → List Slot
operands m = top_stack m.stack.frames

-- how many operands the top frame may have
abbrev pub room_of : Continuation → ℕ
room_of m = top_room m.stack.frames

-- there is a top frame, with no more operands than it may have
pub record HasTop (m : Continuation) : Type 0 where
  pub frame : 0 < length m.stack.frames
  pub held : length (operands m) ≤ top_room m.stack.frames

-- what was read at a depth of an operand stack: a value of the kind, and what lies below it
abbrev pub IsOperand : (k : ValueKind) → Of k → ℕ → List Slot → Type 0
IsOperand k v depth stack = popped k (drop depth stack) ≡ Some (v, drop (depth + width k) stack)

-- the same of a value whose kind is an argument, and what it is as a number or a reference
pub record IsPopped (k : ValueKind) (v : Value) (depth : ℕ) (stack : List Slot) : Type 0 where
  pub plain : Of k
  pub lies : IsOperand k plain depth stack
  pub is : value k plain ≡ v

-- what a store into a field takes, as the field keeps it
abbrev pub IsStored : FieldInfo → Value → List Slot → Type 0
IsStored f v stack = stored f stack ≡ Some (v, drop (width (value_kind f.kind)) stack)

-- nothing of a thread has changed but the operands of its top frame
pub record ChangesOperands (old new : Continuation) : Type 0 where
  pub thread : new.thread ≡ old.thread
  pub calls : new.stack.calls ≡ old.stack.calls
  pub frames : new.stack.frames ≡ with_stack (operands new) old.stack.frames
