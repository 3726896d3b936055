-- The operands that instructions and native methods take: where a frame keeps to the typing, they are there (JVMS 2.6.2, 4.10.1, 6.5).
use Rattle.std.specs.Prelude.{ℕ, ◌≡◌, ◌+◌, List, [], ◌∷◌, ◌++◌, Some, None, drop, map, replicate, reverse, slice_get}
use Rattle.std.specs.Option.{option_map_or}
use Rattle.items.specs.Options.{◌>>=◌}
use Rattle.descriptors.specs.declared.kind.Signature.{Signature}
use Rattle.opcodes.specs.declared.op.ValueKind.{ValueKind}
use Rattle.opcodes.specs.declared.op.ValueKind.TheVariants as kinds
use Rattle.lib_table.specs.declared.native.Native.{Native}
use Rattle.instruction_rows.specs.declared.value.Slot.{Slot}
use Rattle.instruction_rows.specs.Kinds.{Of, Function, kind_of_element}
use Rattle.instruction_rows.specs.Rows.{Row, LocalRow, Event, Invocation, static, dynamic, int, long, local, returns, invoke, event, get_static, put_static, get_field, put_field, new, new_array, new_array_of, new_arrays, array_length, array_load, array_store, check_cast, instance_of, throw, monitor_enter, monitor_exit}
use Rattle.instruction_rows.specs.SlotEffect.{popped}
use Rattle.link_model.specs.declared.members.FieldInfo.{FieldInfo}
use Rattle.link_model.specs.declared.sites.Resolution.{Resolution}
use Rattle.link_model.specs.World.{World}
use Rattle.ref_model.specs.Kinds.{value_kind}
use Rattle.ref_model.specs.Memory.{Memory}
use Rattle.ref_model.specs.Fetch.{Named, field_of, named_method}
use Rattle.ref_model.specs.NativeRows.{Answer, native}
use Rattle.ref_model.specs.Natives.{native_row}

-- ---- an operand stack

-- how many slots a value of the kind takes
abbrev pub width : ValueKind → ℕ
width kinds.Int = 1
width kinds.Long = 2
width kinds.Reference = 1

-- a value of the kind lies at this depth, in slots
pub record HasOperand (k : ValueKind) (depth : ℕ) (stack : List Slot) : Type 0 where
  pub operand : Of k
  pub is : popped k (drop depth stack) ≡ Some (operand, drop (depth + width k) stack)

-- values of these kinds lie from this depth on, that of the first kind topmost
abbrev pub HasOperands : List ValueKind → ℕ → List Slot → Type 0
HasOperands [] depth stack = Unit {0}
HasOperands (k ∷ ks) depth stack = HasOperand k depth stack × HasOperands ks (depth + width k) stack

-- ---- the kinds that an instruction takes, the topmost first

-- the value for a field, and what lies below it
abbrev pub stored_above : List ValueKind → World → Resolution → List ValueKind
stored_above below w resolution =
    option_map_or (λ (f : FieldInfo). value_kind f.kind ∷ below) (field_of resolution.site >>= λ n. slice_get w.fields n) below

abbrev pub event_takes : World → Resolution → Event → List ValueKind
event_takes w resolution (get_static index) = []
event_takes w resolution (put_static index) = stored_above [] w resolution
event_takes w resolution (get_field index) = kinds.Reference ∷ []
event_takes w resolution (put_field index) = stored_above (kinds.Reference ∷ []) w resolution
event_takes w resolution (new index) = []
event_takes w resolution (new_array primitive) = kinds.Int ∷ []
event_takes w resolution (new_array_of index) = kinds.Int ∷ []
event_takes w resolution (new_arrays index dimensions) = replicate dimensions kinds.Int
event_takes w resolution array_length = kinds.Reference ∷ []
event_takes w resolution (array_load element) = kinds.Int ∷ kinds.Reference ∷ []
event_takes w resolution (array_store element) = kind_of_element element ∷ kinds.Int ∷ kinds.Reference ∷ []
event_takes w resolution (check_cast index) = kinds.Reference ∷ []
event_takes w resolution (instance_of index) = kinds.Reference ∷ []
event_takes w resolution throw = kinds.Reference ∷ []
event_takes w resolution monitor_enter = kinds.Reference ∷ []
event_takes w resolution monitor_exit = kinds.Reference ∷ []

-- the arguments of a method, by its descriptor
abbrev pub argument_kinds : Signature → List ValueKind
argument_kinds s = reverse (map value_kind s.args)

-- and the receiver below them, if it has one
abbrev pub called_takes : Invocation → Signature → List ValueKind
called_takes static s = argument_kinds s
called_takes dynamic s = argument_kinds s
called_takes invocation s = argument_kinds s ++ kinds.Reference ∷ []

abbrev pub invocation_takes : World → Resolution → Invocation → List ValueKind
invocation_takes w resolution invocation =
    option_map_or (λ (m : Named). called_takes invocation m.method.signature) (named_method w resolution) []

-- Of the local instructions only those that can throw have a part here: the divisions.
abbrev pub local_takes : LocalRow → List ValueKind
local_takes (int takes f) = takes
local_takes (long takes f) = takes
local_takes r = []

abbrev pub row_takes : World → Resolution → Row → List ValueKind
row_takes w resolution (local r) = local_takes r
row_takes w resolution (returns None) = []
row_takes w resolution (returns (Some k)) = k ∷ []
row_takes w resolution (invoke invocation index) = invocation_takes w resolution invocation
row_takes w resolution (event e) = event_takes w resolution e
row_takes w resolution r = []

-- ---- what is there

-- the operands of the instruction with this row
abbrev pub FindsOperands : World → Resolution → Row → List Slot → Type 0
FindsOperands w resolution r stack = HasOperands (row_takes w resolution r) 0 stack

-- the arguments of a native method, and its receiver
abbrev pub FindsArguments : World → Native → List Slot → Type 0
FindsArguments w n stack = (r : Memory) (takes : List ValueKind) (act : Function takes Answer) → native_row w r n ≡ Some (native takes act) →
    HasOperands takes 0 stack
