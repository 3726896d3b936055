-- What the instruction of an opcode does, where it is one on fields, arrays or objects, or a division by 0.
use Rattle.std.specs.Prelude.{ℕ, ℤ, Bool, true, false, [], ◌∷◌, List, Option, Some, None, if◌then◌else◌}
use Rattle.jvm_words.specs.declared.operation.IntOp.{IntOp}
use Rattle.jvm_words.specs.declared.operation.LongOp.{LongOp}
use Rattle.jvm_words.specs.Words.{is_zero, int_result, long_result}
use Rattle.opcodes.specs.declared.op.Op.{Op}
use Rattle.opcodes.specs.declared.op.Op.TheVariants as ops
use Rattle.opcodes.specs.declared.op.ValueKind.TheVariants as kinds
use Rattle.instruction_rows.specs.declared.value.Slot.{Slot}
use Rattle.instruction_rows.specs.declared.value.Value.{Value}
use Rattle.instruction_rows.specs.Rows.{int, long, Row, local, event}
use Rattle.continuation.specs.Continuation.{Continuation}
use Rattle.heap_objs.specs.Heap.{Heap}
use Rattle.link_model.specs.declared.sites.Resolution.{Resolution}
use Rattle.link_model.specs.World.{World}
use Rattle.state_model.specs.Frames.{Frame}
use Rattle.ref_model.specs.Memory.{Memory}
use Rattle.ref_model.specs.declared.exception.Exception.TheVariants as exceptions
use Rattle.ref_model.specs.Effects.{Effect, throws}
use Rattle.ref_model.specs.Step.{division_effect, event_effect}
use Rattle.heap_instructions.specs.declared.outcome.Outcome.{Outcome}
use Rattle.heap_instructions.specs.Operands.{ChangesOperands}
use Rattle.heap_instructions.specs.Outcomes.{Acts, ActsAlone, IsEffect, KeptUnlessDone, with_heap, with_statics}

-- a frame of which its operand stack alone is looked at
abbrev pub frame_with : List Slot → Frame
frame_with stack = record { method = 0; pc = 0; locals = []; stack = stack; room = 0 }

abbrev pub row_effect : World → Resolution → Row → Memory → List Slot → Option Effect
row_effect w resolution (event e) r stack = event_effect w resolution e r stack
row_effect w resolution (local act) r stack = division_effect act (frame_with stack)
row_effect w resolution row r stack = None

-- An instruction ran, and had this outcome: its effect is that of its row, and nothing changes unless it is done.
pub record IsRun (w : World) (resolution : Resolution) (row : Row) (heap next_heap : Heap) (statics next_statics : List Value) (m next : Continuation) (outcome : Outcome) : Type 0 where
  pub effect : Acts (row_effect w resolution row) (λ r. with_heap heap (with_statics statics r)) m (λ r. with_heap next_heap (with_statics next_statics r)) next outcome
  pub kept : KeptUnlessDone outcome m next
  pub kept_heap : KeptUnlessDone outcome heap next_heap
  pub kept_statics : KeptUnlessDone outcome statics next_statics
  pub only : ChangesOperands m next

-- the same of an instruction that doesn't look at static fields
pub record IsHeapRun (w : World) (resolution : Resolution) (row : Row) (heap next_heap : Heap) (m next : Continuation) (outcome : Outcome) : Type 0 where
  pub effect : Acts (row_effect w resolution row) (with_heap heap) m (with_heap next_heap) next outcome
  pub kept : KeptUnlessDone outcome m next
  pub kept_heap : KeptUnlessDone outcome heap next_heap
  pub only : ChangesOperands m next

-- ---- divisions

-- a division whose divisor is 0, or isn't
abbrev pub by_zero : Bool → Option Effect
by_zero is = if is then Some (throws exceptions.ArithmeticException) else None

-- A division by this divisor had this outcome, whatever the frame is.
abbrev pub IsDivided : ℤ → Outcome → Type 0
IsDivided divisor outcome = (room : ℕ) (q : Memory) (stack : List Slot) → IsEffect room outcome (by_zero (is_zero divisor)) q stack

-- An operation on ints, or on longs, had this outcome.
abbrev pub DividesInts : IntOp → Continuation → Outcome → Type 0
DividesInts op m outcome =
    ActsAlone (λ stack. division_effect (int (kinds.Int ∷ kinds.Int ∷ []) (λ b a. int_result op a b)) (frame_with stack)) m outcome

abbrev pub DividesLongs : LongOp → Continuation → Outcome → Type 0
DividesLongs op m outcome =
    ActsAlone (λ stack. division_effect (long (kinds.Long ∷ kinds.Long ∷ []) (λ b a. long_result op a b)) (frame_with stack)) m outcome

-- ---- instructions that have functions of their own

-- an instruction on a field
abbrev pub is_on_field : Op → Bool
is_on_field (ops.GetStatic index) = true
is_on_field (ops.PutStatic index) = true
is_on_field (ops.GetField index) = true
is_on_field (ops.PutField index) = true
is_on_field op = false

-- an instruction without operands in the code
abbrev pub is_plain : Op → Bool
is_plain (ops.Simple simple) = true
is_plain op = false
