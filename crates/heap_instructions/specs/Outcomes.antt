-- What an outcome says of the effect of an instruction or of a native method.
use Rattle.std.specs.Prelude.{ℕ, pos, ◌≡◌, ◌-◌, ◌≤◌, ◌&&◌, Bool, true, List, ◌∷◌, Option, Some, None, drop, length, nat_le, if◌then◌else◌}
use Rattle.instruction_rows.specs.declared.value.Value.{Value}
use Rattle.instruction_rows.specs.declared.value.Value.TheVariants as values
use Rattle.instruction_rows.specs.declared.value.Slot.{Slot}
use Rattle.instruction_rows.specs.declared.value.Slot.TheVariants as slots
use Rattle.continuation.specs.Continuation.{Continuation}
use Rattle.heap_objs.specs.Heap.{Heap}
use Rattle.ref_model.specs.Memory.{Memory}
use Rattle.ref_model.specs.Effects.{Effect, done, gives, throws, throws_object, asks}
use Rattle.ref_model.specs.Requests.{request_of}
use Rattle.heap_instructions.specs.declared.outcome.Outcome.{Outcome}
use Rattle.heap_instructions.specs.declared.outcome.Outcome.TheVariants as outcomes
use Rattle.heap_instructions.specs.Operands.{operands, room_of}

-- ---- where an instruction is undefined

-- the greatest int
abbrev pub greatest_int : ℕ
greatest_int = 2147483647

-- A count on top is an int: the definitions count more elements or units than an int counts.
abbrev pub is_int_on_top : List Slot → Bool
is_int_on_top (slots.One (values.Int (pos n)) ∷ rest) = nat_le n greatest_int
is_int_on_top stack = true

-- whether a frame with this room for operands can have an operand stack (JVMS 2.6.2)
abbrev pub can_have : ℕ → List Slot → Bool
can_have room stack = nat_le (length stack) room && is_int_on_top stack

-- an effect, unless it leaves an operand stack that a frame with this room can't have
abbrev pub fitting : ℕ → Option Effect → Option Effect
fitting room (Some (done r stack)) = if can_have room stack then Some (done r stack) else None
fitting room effect = effect

-- The definitions have no effect here, or one that leaves an operand stack that a frame with this room can't have.
abbrev pub LacksEffect : ℕ → Option Effect → Type 0
LacksEffect room effect = fitting room effect ≡ None

-- ---- outcomes

-- In a frame with this room for operands an outcome is that of this effect, where the memory and the operand stack are these afterwards;
-- it is undefined only where there is no such effect.
abbrev pub IsEffect : ℕ → Outcome → Option Effect → Memory → List Slot → Type 0
IsEffect room outcomes.Done effect q stack = effect ≡ Some (done q stack)
IsEffect room (outcomes.Throws e) effect q stack = effect ≡ Some (throws e)
IsEffect room (outcomes.ThrowsObject o) effect q stack = effect ≡ Some (throws_object o)
IsEffect room (outcomes.Asks asked count) effect q stack =
    (effect ≡ Some (asks (request_of asked) (drop count stack))) × (count ≤ length stack)
IsEffect room outcomes.Undefined effect q stack = LacksEffect room effect

-- An instruction, with its effect as a function of the memory and of the operand stack, had this outcome in the top frame: in each memory
-- whose parts are the given ones the outcome is that of its effect, with the parts and the operands as they are now.
abbrev pub Acts : (Memory → List Slot → Option Effect) → (Memory → Memory) → Continuation → (Memory → Memory) → Continuation → Outcome → Type 0
Acts event before old after new outcome =
    (r : Memory) → IsEffect (room_of old) outcome (event (before r) (operands old)) (after r) (operands new)

-- the same of an instruction that looks at operands alone and changes nothing
abbrev pub ActsAlone : (List Slot → Option Effect) → Continuation → Outcome → Type 0
ActsAlone event m outcome = (r : Memory) → IsEffect (room_of m) outcome (event (operands m)) r (operands m)

-- a value is the old one, unless it is done
abbrev pub KeptUnlessDone : {A : Type 0} → Outcome → A → A → Type 0
KeptUnlessDone outcomes.Done old new = Unit {0}
KeptUnlessDone (outcomes.Throws e) old new = new ≡ old
KeptUnlessDone (outcomes.ThrowsObject o) old new = new ≡ old
KeptUnlessDone (outcomes.Asks asked count) old new = new ≡ old
KeptUnlessDone outcomes.Undefined old new = new ≡ old

-- The outcome is that of each effect that replaces the topmost operands by this value and leaves this memory.
abbrev pub IsGiven : ℕ → Value → Continuation → Continuation → Outcome → Type 0
IsGiven count v old new outcome = (q : Memory) (effect : Option Effect) → effect ≡ Some (gives q v (drop count (operands old))) →
    IsEffect (room_of old) outcome effect q (operands new)

-- ---- a memory with other parts

abbrev pub with_heap : Heap → Memory → Memory
with_heap h r = record r { heap = h.objects; room = h.cells - h.used }

abbrev pub with_statics : List Value → Memory → Memory
with_statics statics r = record r { statics = statics }
