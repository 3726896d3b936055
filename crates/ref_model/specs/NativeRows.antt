-- What the machine does in place of the code of a native method: the kinds that it takes, and the function of what it takes.
use Rattle.std.specs.Prelude.{ℕ, List, Option, Some, None}
use Rattle.items.specs.Options.{◌>>=◌}
use Rattle.opcodes.specs.declared.op.ValueKind.{ValueKind}
use Rattle.instruction_rows.specs.declared.value.Value.{Value}
use Rattle.instruction_rows.specs.declared.value.Value.TheVariants as values
use Rattle.instruction_rows.specs.declared.value.Slot.{Slot}
use Rattle.instruction_rows.specs.Kinds.{Function}
use Rattle.instruction_rows.specs.SlotEffect.{applied}
use Rattle.ref_model.specs.declared.exception.Exception.{Exception}
use Rattle.ref_model.specs.declared.exception.Exception.TheVariants as exceptions
use Rattle.ref_model.specs.Memory.{Memory}
use Rattle.ref_model.specs.Heap.{units_at, with_text}
use Rattle.ref_model.specs.Requests.{Request}
use Rattle.ref_model.specs.Effects.{Effect, done, gives, throws, asks}

pub data Answer : Type 0 where
  -- it returns, in this memory, without a result or with one
  returns : Memory → Answer
  returns_value : Memory → Value → Answer
  -- it throws, and nothing else changes
  fails : Exception → Answer
  -- it asks something of the threads, with nothing changed
  asks_for : Request → Answer

-- The kinds are those of the arguments, the topmost first, and of the receiver below them.
pub data NativeRow : Type 0 where
  native : (takes : List ValueKind) → Function takes Answer → NativeRow

-- the kinds that a row takes
abbrev pub row_kinds : Option NativeRow → Option (List ValueKind)
row_kinds None = None
row_kinds (Some (native takes act)) = Some takes

-- what an answer does to what is left of the operand stack
abbrev pub answered : List Slot → Answer → Effect
answered rest (returns r) = done r rest
answered rest (returns_value r v) = gives r v rest
answered rest (fails e) = throws e
answered rest (asks_for q) = asks q rest

abbrev pub native_acted : NativeRow → List Slot → Option Effect
native_acted (native takes act) stack = applied Answer takes act stack >>= λ x. Some (answered x.1 x.0)

-- ---- what natives share

-- a new String
abbrev pub new_text : Option (Memory × ℕ) → Answer
new_text None = fails exceptions.OutOfMemoryError
new_text (Some x) = returns_value x.0 (values.Ref x.1)

abbrev pub gives_text : Memory → List ℕ → Answer
gives_text r units = new_text (with_text r units)

-- What was found of a String. Where there is another object, it is as with the late check of an instruction. (own: a typed program has a
-- String there)
abbrev pub on_units : Option (List ℕ) → (List ℕ → Answer) → Answer
on_units None act = fails exceptions.VerifyError
on_units (Some units) act = act units

-- the units of a String, which isn't null
abbrev pub on_text : Memory → Option ℕ → (List ℕ → Answer) → Answer
on_text r None act = fails exceptions.NullPointerException
on_text r (Some o) act = on_units (units_at r o) act

-- the units of a String, where null stands for this text
abbrev pub on_text_or : List ℕ → Memory → Option ℕ → (List ℕ → Answer) → Answer
on_text_or otherwise r None act = act otherwise
on_text_or otherwise r (Some o) act = on_units (units_at r o) act

-- a reference as a value
abbrev pub reference : Option ℕ → Value
reference None = values.Null
reference (Some o) = values.Ref o
