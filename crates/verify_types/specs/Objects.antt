-- What instructions on objects and arrays do to types (JVMS 4.10.1.9).
use Rattle.std.specs.Prelude.{ℕ, ◌-◌, Bool, not, List, ◌∷◌, Result, Ok, Err, ok_or, replicate, slice_get, ◌==◌, ◌&&◌, ◌||◌, if◌then◌else◌}
use Rattle.std.specs.List.{list_any}
use Rattle.opcodes.specs.declared.op.ValueKind.TheVariants as kinds
use Rattle.opcodes.specs.declared.op.Element.{Element}
use Rattle.opcodes.specs.declared.op.Element.TheVariants as elements
use Rattle.stack_maps.specs.declared.types.VType.{VType}
use Rattle.stack_maps.specs.declared.types.VType.TheVariants as types
use Rattle.instruction_rows.specs.declared.row_why.RowWhy.{RowWhy}
use Rattle.instruction_rows.specs.declared.row_why.RowWhy.TheVariants as whys
use Rattle.instruction_rows.specs.Results.{◌then◌}
use Rattle.instruction_rows.specs.Kinds.{kind_of_element}
use Rattle.instruction_rows.specs.Rows.{Event, get_static, put_static, get_field, put_field, new, new_array, new_array_of, new_arrays, array_length, array_load, array_store, check_cast, instance_of, throw, monitor_enter, monitor_exit}
use Rattle.instruction_rows.specs.TypeEffect.{type_popped, types_popped, type_pushed}
use Rattle.link_model.specs.declared.members.FieldInfo.{FieldInfo}
use Rattle.link_model.specs.declared.sites.Resolution.{Resolution}
use Rattle.link_model.specs.declared.sites.Site.{Site}
use Rattle.link_model.specs.declared.sites.Site.TheVariants as sites
use Rattle.link_model.specs.World.{World, class_type}
use Rattle.verify_types.specs.ClassTypes.{object_type, throwable_type, type_of_kind, type_of_value, base_of_primitive}
use Rattle.verify_types.specs.Assignability.{assignable}
use Rattle.verify_types.specs.TypeStates.{TypeState, with_stack, with_types, is_this, is_new, replaced}
use Rattle.verify_types.specs.Operands.{only_if, wanted, is_array, array_popped}

-- ---- what the constant of an instruction means

-- a linked program has such a constant wherever an instruction names one; where it hasn't, the answer is Kind
abbrev pub field_of : World → Site → Result FieldInfo RowWhy
field_of w (sites.Field n) = ok_or (slice_get w.fields n) whys.Kind
field_of w site = Err whys.Kind

abbrev pub class_of : Site → Result ℕ RowWhy
class_of (sites.Class class) = Ok class
class_of site = Err whys.Kind

abbrev pub constant_type : World → Site → Result VType RowWhy
constant_type w (sites.Value value) = Ok (type_of_value w value)
constant_type w site = Err whys.Kind

-- the class that it names
abbrev pub named_class : Resolution → Result ℕ RowWhy
named_class resolution = ok_or resolution.class whys.Kind

-- ---- fields

-- An object whose constructor runs may have fields of its own class set before it calls another constructor.
abbrev pub may_set_early : ℕ → ℕ → FieldInfo → VType → Bool
may_set_early own class field t = is_this t && class == own && field.class == own

-- what lies below an object whose field may be set
abbrev pub set_in : World → ℕ → ℕ → FieldInfo → List VType → Result (List VType) RowWhy
set_in w own class field stack =
    type_popped kinds.Reference stack then λ x.
    only_if (assignable w x.0 (class_type w class) || may_set_early own class field x.0) whys.Kind x.1

abbrev pub static_gotten : World → Resolution → List VType → Result (List VType) RowWhy
static_gotten w resolution stack =
    field_of w resolution.site then λ field. Ok (type_pushed (type_of_kind w field.kind) stack)

abbrev pub static_put : World → Resolution → List VType → Result (List VType) RowWhy
static_put w resolution stack = field_of w resolution.site then λ field. wanted w (type_of_kind w field.kind) stack

abbrev pub field_gotten : World → Resolution → List VType → Result (List VType) RowWhy
field_gotten w resolution stack =
    field_of w resolution.site then λ field.
    named_class resolution then λ class.
    wanted w (class_type w class) stack then λ rest.
    Ok (type_pushed (type_of_kind w field.kind) rest)

abbrev pub field_put : World → ℕ → Resolution → List VType → Result (List VType) RowWhy
field_put w own resolution stack =
    field_of w resolution.site then λ field.
    named_class resolution then λ class.
    wanted w (type_of_kind w field.kind) stack then λ rest.
    set_in w own class field rest

-- ---- arrays

-- what an array instruction loads from an array of this type
abbrev pub element_type : Element → VType → VType
element_type elements.Reference (types.Named n base) = types.Named (n - 1) base
element_type elements.Reference t = types.Null
element_type elements.Long t = types.Long
element_type element t = types.Int

-- what lies below a value that an array instruction stores; a reference is that of an object
abbrev pub stored_popped : World → Element → List VType → Result (List VType) RowWhy
stored_popped w elements.Reference stack = wanted w (object_type w) stack
stored_popped w element stack = type_popped (kind_of_element element) stack then λ x. Ok x.1

abbrev pub array_loaded : Element → List VType → Result (List VType) RowWhy
array_loaded element stack =
    type_popped kinds.Int stack then λ x.
    array_popped element x.1 then λ y.
    Ok (type_pushed (element_type element y.0) y.1)

abbrev pub array_stored : World → Element → List VType → Result (List VType) RowWhy
array_stored w element stack =
    stored_popped w element stack then λ rest.
    type_popped kinds.Int rest then λ x.
    array_popped element x.1 then λ y.
    Ok y.1

abbrev pub length_gotten : List VType → Result (List VType) RowWhy
length_gotten stack =
    type_popped kinds.Reference stack then λ x. only_if (is_array x.0) whys.Kind (types.Int ∷ x.1)

-- an array of the class that the constant means, for this many lengths
abbrev pub array_made : World → Resolution → ℕ → List VType → Result (List VType) RowWhy
array_made w resolution lengths stack =
    class_of resolution.site then λ class.
    types_popped (replicate lengths kinds.Int) stack then λ rest.
    Ok (class_type w class ∷ rest)

-- ---- casts

-- what lies below an object, and the class that the constant means
abbrev pub object_taken : World → Resolution → List VType → Result (ℕ × List VType) RowWhy
object_taken w resolution stack =
    class_of resolution.site then λ class. wanted w (object_type w) stack then λ rest. Ok (class, rest)

-- ---- rows

-- What an event does to the operand stack, in the code of the class `own`; `new` isn't among them here, since it looks at the local variables too.
abbrev pub stack_after : World → ℕ → ℕ → Resolution → Event → List VType → Result (List VType) RowWhy
stack_after w own pc resolution (get_static index) stack = static_gotten w resolution stack
stack_after w own pc resolution (put_static index) stack = static_put w resolution stack
stack_after w own pc resolution (get_field index) stack = field_gotten w resolution stack
stack_after w own pc resolution (put_field index) stack = field_put w own resolution stack
stack_after w own pc resolution (new index) stack = Ok (types.Uninit pc ∷ stack)
stack_after w own pc resolution (new_array primitive) stack =
    type_popped kinds.Int stack then λ x. Ok (types.Named 1 (base_of_primitive primitive) ∷ x.1)
stack_after w own pc resolution (new_array_of index) stack = array_made w resolution 1 stack
stack_after w own pc resolution (new_arrays index lengths) stack = array_made w resolution lengths stack
stack_after w own pc resolution array_length stack = length_gotten stack
stack_after w own pc resolution (array_load element) stack = array_loaded element stack
stack_after w own pc resolution (array_store element) stack = array_stored w element stack
stack_after w own pc resolution (check_cast index) stack =
    object_taken w resolution stack then λ x. Ok (class_type w x.0 ∷ x.1)
stack_after w own pc resolution (instance_of index) stack = object_taken w resolution stack then λ x. Ok (types.Int ∷ x.1)
stack_after w own pc resolution throw stack = wanted w (throwable_type w) stack
stack_after w own pc resolution monitor_enter stack = type_popped kinds.Reference stack then λ x. Ok x.1
stack_after w own pc resolution monitor_exit stack = type_popped kinds.Reference stack then λ x. Ok x.1

-- An object that was made here before and isn't initialized yet may not be on the operand stack, and is forgotten in local
-- variables.
abbrev pub made_anew : ℕ → TypeState → Result TypeState RowWhy
made_anew pc s =
    only_if (not (list_any (is_new pc) s.types.stack)) whys.Init
    (with_types s (record { locals = replaced (is_new pc) types.Top s.types.locals; stack = types.Uninit pc ∷ s.types.stack }))

abbrev pub event_state : World → ℕ → ℕ → Resolution → Event → TypeState → Result TypeState RowWhy
event_state w own pc resolution (new index) s = made_anew pc s
event_state w own pc resolution event s = stack_after w own pc resolution event s.types.stack then λ stack. Ok (with_stack s stack)
