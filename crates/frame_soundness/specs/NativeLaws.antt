-- What native methods do to a memory whose values have the kinds of the typing, and what they give back.
use Rattle.std.specs.Prelude.{◌≡◌, List, [], ◌∷◌, Option, Some, None, Ok}
use Rattle.lib_table.specs.declared.native.Native.{Native}
use Rattle.lib_table.specs.declared.native.Native.TheVariants as natives
use Rattle.opcodes.specs.declared.op.ValueKind.{ValueKind}
use Rattle.opcodes.specs.declared.op.ValueKind.TheVariants as kinds
use Rattle.stack_maps.specs.declared.types.VType.{VType}
use Rattle.instruction_rows.specs.declared.value.Slot.{Slot}
use Rattle.instruction_rows.specs.Kinds.{Of, Function, kind_of, kind_of_type}
use Rattle.instruction_rows.specs.TypeEffect.{types_popped}
use Rattle.instruction_rows.specs.Soundness.{AreOf}
use Rattle.link_model.specs.World.{World}
use Rattle.ref_model.specs.Memory.{Memory}
use Rattle.ref_model.specs.Effects.{Effect}
use Rattle.ref_model.specs.Requests.{request_result, calls}
use Rattle.ref_model.specs.NativeRows.{Answer, returns, returns_value, fails, asks_for, NativeRow, native, native_acted}
use Rattle.ref_model.specs.Natives.{native_row}
use Rattle.frame_soundness.specs.Typed.{given_back}
use Rattle.frame_soundness.specs.StateKinds.{MemoryFits}
use Rattle.frame_soundness.specs.EventLaws.{IsKept}

-- the kind of what a native method gives back, by its descriptor; of a method without a result, None
abbrev pub native_result : Native → Option ValueKind
native_result natives.ObjectEquals = Some kinds.Int
native_result natives.ObjectHashCode = Some kinds.Int
native_result natives.ObjectToString = Some kinds.Reference
native_result natives.StringLength = Some kinds.Int
native_result natives.StringCharAt = Some kinds.Int
native_result natives.StringIsEmpty = Some kinds.Int
native_result natives.StringEquals = Some kinds.Int
native_result natives.StringHashCode = Some kinds.Int
native_result natives.StringConcat = Some kinds.Reference
native_result natives.StringToString = Some kinds.Reference
native_result natives.StringValueOfInt = Some kinds.Reference
native_result natives.StringValueOfLong = Some kinds.Reference
native_result natives.StringValueOfChar = Some kinds.Reference
native_result natives.StringValueOfBoolean = Some kinds.Reference
native_result natives.StringBuilderAppendInt = Some kinds.Reference
native_result natives.StringBuilderAppendLong = Some kinds.Reference
native_result natives.StringBuilderAppendChar = Some kinds.Reference
native_result natives.StringBuilderAppendBoolean = Some kinds.Reference
native_result natives.StringBuilderAppendString = Some kinds.Reference
native_result natives.StringBuilderLength = Some kinds.Int
native_result natives.StringBuilderToString = Some kinds.Reference
native_result natives.SystemNanoTime = Some kinds.Long
native_result natives.SystemCurrentTimeMillis = Some kinds.Long
native_result natives.ThreadIsInterrupted = Some kinds.Int
native_result natives.ThreadIsAlive = Some kinds.Int
native_result natives.ThreadIsVirtual = Some kinds.Int
native_result natives.ThreadIsDaemon = Some kinds.Int
native_result natives.ThreadGetName = Some kinds.Reference
native_result natives.ThreadId = Some kinds.Long
native_result natives.ThreadGetState = Some kinds.Reference
native_result natives.ThreadCurrentThread = Some kinds.Reference
native_result natives.ThreadInterrupted = Some kinds.Int
native_result n = None

-- an answer, or a request, with a result of this kind, or without one
abbrev pub IsAnswer : World → Option ValueKind → Answer → Type 0
IsAnswer w result (returns q) = (result ≡ None) × MemoryFits w q
IsAnswer w result (returns_value q v) = (result ≡ Some (kind_of v)) × MemoryFits w q
IsAnswer w result (fails e) = Unit {0}
IsAnswer w result (asks_for (calls o g)) = ⊥
IsAnswer w result (asks_for q) = result ≡ request_result q

-- what holds of a function of values of these kinds, whatever they are
abbrev pub Always : (Answer → Type 0) → (takes : List ValueKind) → Function takes Answer → Type 0
Always P [] answer = P answer
Always P (k ∷ ks) f = (x : Of k) → Always P ks (f x)

abbrev pub IsRow : World → Option ValueKind → NativeRow → Type 0
IsRow w result (native takes act) = Always (IsAnswer w result) takes act

-- A native method keeps the memory's values of their kinds, and gives back what its descriptor says.
abbrev pub NativesKeep : Type 0
NativesKeep = (w : World) (r : Memory) (n : Native) (row : NativeRow) → MemoryFits w r → native_row w r n ≡ Some row →
    IsRow w (native_result n) row

-- ---- on the operand stack

-- the type of what comes back has the kind of a result
abbrev pub IsBack : Option VType → Option ValueKind → Type 0
IsBack None None = Unit {0}
IsBack (Some t) (Some k) = kind_of_type t ≡ Some k
IsBack back result = ⊥

-- A native method takes its operands, and leaves what it gives back on what lies below them.
abbrev pub NativesGoOn : Type 0
NativesGoOn = (w : World) (r : Memory) (n : Native) (takes : List ValueKind) (act : Function takes Answer) (back : Option VType)
    (ts rest : List VType) (xs : List Slot) (effect : Effect) → MemoryFits w r → native_row w r n ≡ Some (native takes act) →
    types_popped takes ts ≡ Ok rest → AreOf ts xs → IsBack back (native_result n) →
    native_acted (native takes act) xs ≡ Some effect → IsKept w (given_back back rest) effect
