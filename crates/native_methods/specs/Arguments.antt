-- The row of a native method with its arguments given one by one.
use Rattle.std.specs.Prelude.{ℕ, [], ◌∷◌, List, Option, Some, None}
use Rattle.items.specs.Options.{◌>>=◌}
use Rattle.opcodes.specs.declared.op.ValueKind.{ValueKind}
use Rattle.opcodes.specs.declared.op.ValueKind.TheVariants as kinds
use Rattle.instruction_rows.specs.declared.value.Slot.{Slot}
use Rattle.instruction_rows.specs.Kinds.{Of}
use Rattle.lib_table.specs.declared.native.Native.{Native}
use Rattle.link_model.specs.World.{World}
use Rattle.ref_model.specs.Memory.{Memory}
use Rattle.ref_model.specs.Effects.{Effect}
use Rattle.ref_model.specs.NativeRows.{Answer, NativeRow, native, native_acted}
use Rattle.ref_model.specs.Natives.{native_row}
use Rattle.native_methods.specs.declared.arguments.Arguments.{Arguments}
use Rattle.native_methods.specs.declared.arguments.Arguments.TheVariants as arguments

-- the kinds of what native methods take in the code
abbrev pub kinds_of : Arguments → List ValueKind
kinds_of arguments.Nothing = []
kinds_of arguments.Reference = kinds.Reference ∷ []
kinds_of arguments.TwoReferences = kinds.Reference ∷ kinds.Reference ∷ []
kinds_of arguments.IntAndReference = kinds.Int ∷ kinds.Reference ∷ []
kinds_of arguments.LongAndReference = kinds.Long ∷ kinds.Reference ∷ []
kinds_of arguments.Int = kinds.Int ∷ []
kinds_of arguments.Long = kinds.Long ∷ []

-- and how many slots they take
abbrev pub slots_of : Arguments → ℕ
slots_of arguments.Nothing = 0
slots_of arguments.Reference = 1
slots_of arguments.TwoReferences = 2
slots_of arguments.IntAndReference = 2
slots_of arguments.LongAndReference = 3
slots_of arguments.Int = 1
slots_of arguments.Long = 2

-- a row with its first argument, the topmost operand; None where it takes no argument of the kind
abbrev pub with_argument : (k : ValueKind) → Of k → Option NativeRow → Option NativeRow
with_argument kinds.Int n (Some (native (kinds.Int ∷ ks) act)) = Some (native ks (act n))
with_argument kinds.Long n (Some (native (kinds.Long ∷ ks) act)) = Some (native ks (act n))
with_argument kinds.Reference x (Some (native (kinds.Reference ∷ ks) act)) = Some (native ks (act x))
with_argument k x row = None

-- what a row answers that has all its arguments
abbrev pub row_answer : Option NativeRow → Option Answer
row_answer (Some (native [] answer)) = Some answer
row_answer row = None

-- what a row answers to one argument, and to two, the second a reference
abbrev pub to_one : (k : ValueKind) → Of k → Option NativeRow → Option Answer
to_one k x row = row_answer (with_argument k x row)

abbrev pub to_two : (k : ValueKind) → Of k → Of kinds.Reference → Option NativeRow → Option Answer
to_two k x this row = row_answer (with_argument kinds.Reference this (with_argument k x row))

-- what a native method answers to them, and without arguments
abbrev pub answer_to_none : World → Memory → Native → Option Answer
answer_to_none w r n = row_answer (native_row w r n)

abbrev pub answer_to : World → Memory → Native → (k : ValueKind) → Of k → Option Answer
answer_to w r n k x = to_one k x (native_row w r n)

abbrev pub answer_to_two : World → Memory → Native → (k : ValueKind) → Of k → Of kinds.Reference → Option Answer
answer_to_two w r n k x this = to_two k x this (native_row w r n)

-- what a native method does
abbrev pub native_effect : World → Native → Memory → List Slot → Option Effect
native_effect w n r stack = native_row w r n >>= λ row. native_acted row stack
