-- The parts of a memory that native methods read and write, and what an answer says of them.
use Rattle.std.specs.Prelude.{ℕ, pos, ◌≡◌, Bool, true, false, List, [], Option, Some, None, drop, nat_le, slice_get, if◌then◌else◌}
use Rattle.items.specs.Options.{◌>>=◌}
use Rattle.instruction_rows.specs.declared.value.Slot.{Slot}
use Rattle.instruction_rows.specs.declared.value.Value.{Value}
use Rattle.instruction_rows.specs.declared.value.Value.TheVariants as values
use Rattle.continuation.specs.Continuation.{Continuation}
use Rattle.lib_table.specs.declared.native.Native.{Native}
use Rattle.link_model.specs.World.{World}
use Rattle.ref_model.specs.Memory.{Memory}
use Rattle.ref_model.specs.Effects.{Effect, done, gives, throws, asks}
use Rattle.ref_model.specs.Heap.{units_of, values_of, with_value}
use Rattle.ref_model.specs.NativeRows as rows
use Rattle.ref_model.specs.Requests.{request_of}
use Rattle.ref_model.specs.Printing.{line}
use Rattle.ref_model.specs.ThreadNatives.{number_field, number_in}
use Rattle.state_model.specs.Objects.{Object}
use Rattle.heap_instructions.specs.Operands.{operands, room_of}
use Rattle.heap_instructions.specs.Outcomes.{IsEffect, LacksEffect, greatest_int, with_heap}
use Rattle.heap_instructions.specs.declared.outcome.Outcome.{Outcome}
use Rattle.heap_instructions.specs.declared.outcome.Outcome.TheVariants as outcomes
use Rattle.native_methods.specs.Arguments.{native_effect}
use Rattle.native_methods.specs.declared.state.NativeState.{NativeState}
use Rattle.native_methods.specs.declared.answer.Answer.{Answer}
use Rattle.native_methods.specs.declared.answer.Answer.TheVariants as answers

-- ---- a memory with these parts

-- without the heap
abbrev pub beside_heap : NativeState → Memory → Memory
beside_heap s r = record r { out = s.out.items; err = s.err.items; exited = s.exited }

abbrev pub with_natives : NativeState → Memory → Memory
with_natives s r = with_heap s.heap (beside_heap s r)

-- ---- answers

-- an answer, unless it gives a count that is greater than an int
abbrev pub counted : Option rows.Answer → Option rows.Answer
counted (Some (rows.returns_value r (values.Int (pos n)))) = if nat_le n greatest_int then Some (rows.returns_value r (values.Int (pos n))) else None
counted defined = defined

-- The definitions answer nothing here, or give a count that is greater than an int.
abbrev pub LacksAnswer : Option rows.Answer → Type 0
LacksAnswer defined = counted defined ≡ None

-- An answer is this one of the definitions, where the memory is this one afterwards; it is undefined only where there is no such one.
abbrev pub IsAnswer : Answer → Option rows.Answer → Memory → Type 0
IsAnswer answers.Returns defined q = defined ≡ Some (rows.returns q)
IsAnswer (answers.Gives v) defined q = defined ≡ Some (rows.returns_value q v)
IsAnswer (answers.Throws e) defined q = defined ≡ Some (rows.fails e)
IsAnswer (answers.Asks asked) defined q = defined ≡ Some (rows.asks_for (request_of asked))
IsAnswer answers.Undefined defined q = LacksAnswer defined

-- A native method that has its arguments, with what it answers as a function of the memory, answered this.
abbrev pub Answers : (Memory → Option rows.Answer) → NativeState → NativeState → Answer → Type 0
Answers act old new answer = (r : Memory) → IsAnswer answer (act (with_natives old r)) (with_natives new r)

-- a value is the old one, where an exception was thrown, or something is asked
abbrev pub KeptIfThrownOrAsked : {A : Type 0} → Answer → A → A → Type 0
KeptIfThrownOrAsked (answers.Throws e) old new = new ≡ old
KeptIfThrownOrAsked (answers.Asks asked) old new = new ≡ old
KeptIfThrownOrAsked answer old new = Unit {0}

-- the same of an outcome
abbrev pub StaysIfThrownOrAsked : {A : Type 0} → Outcome → A → A → Type 0
StaysIfThrownOrAsked (outcomes.Throws e) old new = new ≡ old
StaysIfThrownOrAsked (outcomes.ThrowsObject o) old new = new ≡ old
StaysIfThrownOrAsked (outcomes.Asks asked count) old new = new ≡ old
StaysIfThrownOrAsked outcome old new = Unit {0}

-- An answer is that of this effect, where the memory is this one afterwards, and this is left of the operand stack; it is undefined only
-- where no frame has such an effect.
abbrev pub IsAnswerEffect : Answer → Option Effect → Memory → List Slot → Type 0
IsAnswerEffect answers.Returns effect q rest = effect ≡ Some (done q rest)
IsAnswerEffect (answers.Gives v) effect q rest = effect ≡ Some (gives q v rest)
IsAnswerEffect (answers.Throws e) effect q rest = effect ≡ Some (throws e)
IsAnswerEffect (answers.Asks asked) effect q rest = effect ≡ Some (asks (request_of asked) rest)
IsAnswerEffect answers.Undefined effect q rest = (room : ℕ) → LacksEffect room effect

-- With its arguments on top of the operand stack, a native method answered this; the answer replaces this number of slots.
abbrev pub AnswersOn : World → Native → List Slot → ℕ → NativeState → NativeState → Answer → Type 0
AnswersOn w n stack count old new answer = (r : Memory) →
    IsAnswerEffect answer (native_effect w n (with_natives old r) stack) (with_natives new r) (drop count stack)

-- The outcome is that of each effect of the answer, which replaces this number of operands.
abbrev pub IsAnswered : ℕ → Answer → Continuation → Continuation → Outcome → Type 0
IsAnswered count answer old new outcome = (q : Memory) (effect : Option Effect) →
    IsAnswerEffect answer effect q (drop count (operands old)) → IsEffect (room_of old) outcome effect q (operands new)

-- ---- the thread of a Thread object

abbrev pub thread_in : List Object → ℕ → Option ℕ
thread_in heap o = slice_get heap o >>= values_of >>= λ fields. slice_get fields number_field >>= number_in

-- ---- making and setting

-- What making an object gave: its number and the memory with it, or that it has no room, and nothing has changed.
abbrev pub IsMade : (Memory → Option (Memory × ℕ)) → NativeState → NativeState → Option ℕ → Type 0
IsMade make old new (Some o) = (r : Memory) → make (with_natives old r) ≡ Some (with_natives new r, o)
IsMade make old new None = ((r : Memory) → make (with_natives old r) ≡ None) × (new ≡ old)

-- An object has this value at a place now, or it has no such place, and nothing has changed.
abbrev pub IsSet : ℕ → ℕ → Value → NativeState → NativeState → Bool → Type 0
IsSet o place v old new true = (r : Memory) → with_value (with_natives old r) o place v ≡ Some (with_natives new r)
IsSet o place v old new false = ((r : Memory) → with_value (with_natives old r) o place v ≡ None) × (new ≡ old)

-- ---- texts

-- the units of the String with a number
abbrev pub units_in : List Object → ℕ → Option (List ℕ)
units_in heap o = slice_get heap o >>= units_of

-- the units of what a reference refers to, where that is a String
abbrev pub other_units : List Object → Option ℕ → Option (List ℕ)
other_units heap other = other >>= units_in heap

-- the units of a builder's text
abbrev pub field_units : List Object → Value → Option (List ℕ)
field_units heap values.Null = Some []
field_units heap (values.Ref o) = units_in heap o
field_units heap v = None

abbrev pub builder_units : List Object → ℕ → Option (List ℕ)
builder_units heap o = slice_get heap o >>= values_of >>= λ fields. slice_get fields 0 >>= field_units heap

-- a text with or without a line's end
abbrev pub printed : Bool → List ℕ → List ℕ
printed true units = line units
printed false units = units
