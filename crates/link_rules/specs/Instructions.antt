-- What may be wrong with the constant that an instruction names (JVMS 5.4.3, 6.5), rule by rule in the order of LinkWhy.
use Rattle.std.specs.Prelude.{ℕ, ◌+◌, Bool, true, false, not, List, [], ◌∷◌, Option, Some, None, is_some, slice_get, nat_le, ◌==◌, ◌&&◌, ◌||◌, if◌then◌else◌}
use Rattle.std.specs.Bool.{beq}
use Rattle.std.specs.Option.{option_map_or, option_and_then}
use Rattle.items.specs.First.{unless}
use Rattle.class_model.specs.declared.constant.Const.{Const}
use Rattle.class_model.specs.declared.constant.Const.TheVariants.{Integer, Float, Long, Double, Class, Text, Fieldref, Methodref, InterfaceMethodref, MethodHandle, MethodType, Dynamic}
use Rattle.opcodes.specs.declared.op.Op.{Op}
use Rattle.opcodes.specs.declared.op.Op.TheVariants as ops
use Rattle.opcodes.specs.declared.op.Primitive.{Primitive}
use Rattle.opcodes.specs.declared.op.Primitive.TheVariants as primitives
use Rattle.link_rules.specs.declared.why.LinkWhy.{LinkWhy}
use Rattle.link_rules.specs.declared.why.LinkWhy.TheVariants.{MissingClass, WrongKind, BadCode, MissingField, MissingMethod, Unsupported}
use Rattle.link_rules.specs.declared.place.MemberPlace.{MemberPlace}
use Rattle.link_rules.specs.declared.reference.Invocation.{Invocation}
use Rattle.link_rules.specs.declared.reference.Purpose.{Purpose}
use Rattle.link_rules.specs.declared.reference.Purpose.TheVariants as purposes
use Rattle.link_rules.specs.Program.{Program, class_named, is_array_name, is_interface, is_abstract, is_from_file}
use Rattle.link_rules.specs.Members.{Key, has_field, has_method, is_private, is_static}
use Rattle.link_rules.specs.Resolution.{field_of, class_method, interface_method}
use Rattle.link_rules.specs.Constants.{is_known, names_internal, home_of, is_floating, is_floating_array, dimensions_of, argument_slots, key_at, name_at}

-- rules in order, each with what is wrong where it is broken
abbrev pub Faults : Type 0
Faults = List (Option LinkWhy)

-- ---- what a class of a file may not name

-- an internal class, or a private member of a built-in class
abbrev pub is_reserved : Program → ℕ → List ℕ → Bool → Bool
is_reserved p c name reserved = is_from_file p c && (names_internal p name || reserved)

-- whether a type of the name or the descriptor is float or double
abbrev pub is_left_out : List ℕ → Key → Bool
is_left_out name key = is_floating key.descriptor || is_floating_array name

-- ---- fields (JVMS 5.4.3.2)

abbrev pub resolved_field : Program → List ℕ → Key → Option MemberPlace
resolved_field p name key = option_and_then (λ home. field_of p home key) (home_of p name)

-- whether the field, if there is one, is static as it is to be
abbrev pub is_field_kind : Program → Bool → Option MemberPlace → Bool
is_field_kind p static found = option_map_or (λ at. beq (has_field is_static p at) static) found true

abbrev pub is_reserved_field : Program → Option MemberPlace → Bool
is_reserved_field p found = option_map_or (λ (at : MemberPlace). not (is_from_file p at.class) && has_field is_private p at) found false

abbrev pub field_faults : Program → ℕ → Bool → List ℕ → Key → Faults
field_faults p c static name key =
    let found = resolved_field p name key in
    unless (is_known p name) MissingClass
    ∷ unless (is_field_kind p static found) WrongKind
    ∷ unless (is_some found) MissingField
    ∷ unless (not (is_left_out name key || is_reserved p c name (is_reserved_field p found))) Unsupported
    ∷ []

abbrev pub field_const_faults : Program → ℕ → List Const → Bool → Const → Faults
field_const_faults p c pool static (Fieldref class member) = field_faults p c static (name_at pool class) (key_at pool member)
field_const_faults p c pool static const = Some BadCode ∷ []

-- ---- methods (JVMS 5.4.3.3, 5.4.3.4)

abbrev pub resolved_method : Program → Bool → List ℕ → Key → Option MemberPlace
resolved_method p of_interface name key =
    option_and_then (λ home. if of_interface then interface_method p home key else class_method p home key) (home_of p name)

-- whether the name is of an interface; an array class is none
abbrev pub is_interface_name : Program → List ℕ → Bool
is_interface_name p name = not (is_array_name name) && option_map_or (is_interface p) (class_named p name) false

-- whether the method, if there is one, is static as it is to be
abbrev pub is_method_kind : Program → Bool → Option MemberPlace → Bool
is_method_kind p static found = option_map_or (λ at. beq (has_method is_static p at) static) found true

abbrev pub is_reserved_method : Program → Option MemberPlace → Bool
is_reserved_method p found = option_map_or (λ (at : MemberPlace). not (is_from_file p at.class) && has_method is_private p at) found false

-- whether the slots are as many as invokeinterface counts
abbrev pub is_count : Option ℕ → List ℕ → Bool
is_count count descriptor = option_map_or (λ n. argument_slots descriptor + 1 == n) count true

abbrev pub method_faults : Program → ℕ → Invocation → Bool → List ℕ → Key → Faults
method_faults p c call of_interface name key =
    let found = resolved_method p of_interface name key in
    unless (is_known p name) MissingClass
    ∷ unless (beq (is_interface_name p name) of_interface && is_method_kind p call.is_static found) WrongKind
    ∷ unless (is_count call.count key.descriptor) BadCode
    ∷ unless (is_some found) MissingMethod
    ∷ unless (not (is_left_out name key || is_reserved p c name (is_reserved_method p found))) Unsupported
    ∷ []

abbrev pub method_const_faults : Program → ℕ → List Const → Invocation → Const → Faults
method_const_faults p c pool call (Methodref class member) =
    if call.by_class then method_faults p c call false (name_at pool class) (key_at pool member) else Some BadCode ∷ []
method_const_faults p c pool call (InterfaceMethodref class member) =
    if call.by_interface then method_faults p c call true (name_at pool class) (key_at pool member) else Some BadCode ∷ []
method_const_faults p c pool call const = Some BadCode ∷ []

-- ---- classes (JVMS 5.4.3.1)

-- whether an instance may be made of the class of this name
abbrev pub is_instantiable : Program → List ℕ → Bool
is_instantiable p name =
    not (is_array_name name) && option_map_or (λ c. not (is_interface p c || is_abstract p c)) (class_named p name) true

-- whether the class serves for it
abbrev pub is_usable : Program → List ℕ → Purpose → Bool
is_usable p name purposes.Type = true
is_usable p name purposes.Instance = is_instantiable p name
is_usable p name purposes.Element = true
is_usable p name (purposes.Array n) = nat_le n (dimensions_of name)

-- an array class of 255 dimensions is the elements of none (JVMS 4.4.1)
abbrev pub is_deepest : List ℕ → Purpose → Bool
is_deepest name purposes.Element = dimensions_of name == 255
is_deepest name other = false

abbrev pub class_faults : Program → ℕ → Purpose → List ℕ → Faults
class_faults p c purpose name =
    unless (is_known p name) MissingClass
    ∷ unless (is_usable p name purpose) WrongKind
    ∷ unless (not (is_floating_array name || is_deepest name purpose || is_reserved p c name false)) Unsupported
    ∷ []

abbrev pub class_const_faults : Program → ℕ → List Const → Purpose → ℕ → Const → Faults
class_const_faults p c pool purpose index (Class name) = class_faults p c purpose (name_at pool index)
class_const_faults p c pool purpose index const = Some BadCode ∷ []

-- ---- constants that are pushed (JVMS 6.5, ldc, ldc_w, ldc2_w)

abbrev pub push_faults : Bool → Const → Faults
push_faults wide (Integer n) = unless (not wide) BadCode ∷ []
push_faults wide (Text units) = unless (not wide) BadCode ∷ []
push_faults wide (Long n) = unless wide BadCode ∷ []
push_faults wide (Float bits) = Some Unsupported ∷ []
push_faults wide (Double bits) = Some Unsupported ∷ []
push_faults wide (Class name) = Some Unsupported ∷ []
push_faults wide (MethodHandle kind member) = Some Unsupported ∷ []
push_faults wide (MethodType descriptor) = Some Unsupported ∷ []
push_faults wide (Dynamic bootstrap member) = Some Unsupported ∷ []
push_faults wide const = Some BadCode ∷ []

-- ---- instructions

abbrev pub is_floating_primitive : Primitive → Bool
is_floating_primitive primitives.Float = true
is_floating_primitive primitives.Double = true
is_floating_primitive primitive = false

-- what the function says of the constant at an index; there is no constant after the pool
abbrev pub const_faults : List Const → ℕ → (Const → Faults) → Faults
const_faults pool index of = option_map_or of (slice_get pool index) (Some BadCode ∷ [])

abbrev pub virtual_call : Invocation
virtual_call = record { is_static = false; by_class = true; by_interface = false; count = None }

abbrev pub special_call : Invocation
special_call = record { is_static = false; by_class = true; by_interface = true; count = None }

abbrev pub static_call : Invocation
static_call = record { is_static = true; by_class = true; by_interface = true; count = None }

abbrev pub interface_call : ℕ → Invocation
interface_call count = record { is_static = false; by_class = false; by_interface = true; count = Some count }

-- what may be wrong with an instruction in the code of class c, whose pool this is
abbrev pub instr_faults : Program → ℕ → List Const → Op → Faults
instr_faults p c pool (ops.PushConstant i) = const_faults pool i (push_faults false)
instr_faults p c pool (ops.PushWideConstant i) = const_faults pool i (push_faults true)
instr_faults p c pool (ops.GetStatic i) = const_faults pool i (field_const_faults p c pool true)
instr_faults p c pool (ops.PutStatic i) = const_faults pool i (field_const_faults p c pool true)
instr_faults p c pool (ops.GetField i) = const_faults pool i (field_const_faults p c pool false)
instr_faults p c pool (ops.PutField i) = const_faults pool i (field_const_faults p c pool false)
instr_faults p c pool (ops.InvokeVirtual i) = const_faults pool i (method_const_faults p c pool virtual_call)
instr_faults p c pool (ops.InvokeSpecial i) = const_faults pool i (method_const_faults p c pool special_call)
instr_faults p c pool (ops.InvokeStatic i) = const_faults pool i (method_const_faults p c pool static_call)
instr_faults p c pool (ops.InvokeInterface i count) = const_faults pool i (method_const_faults p c pool (interface_call count))
instr_faults p c pool (ops.InvokeDynamic i) = Some Unsupported ∷ []
instr_faults p c pool (ops.New i) = const_faults pool i (class_const_faults p c pool purposes.Instance i)
instr_faults p c pool (ops.NewArray primitive) = unless (not (is_floating_primitive primitive)) Unsupported ∷ []
instr_faults p c pool (ops.ANewArray i) = const_faults pool i (class_const_faults p c pool purposes.Element i)
instr_faults p c pool (ops.MultiANewArray i n) = const_faults pool i (class_const_faults p c pool (purposes.Array n) i)
instr_faults p c pool (ops.CheckCast i) = const_faults pool i (class_const_faults p c pool purposes.Type i)
instr_faults p c pool (ops.InstanceOf i) = const_faults pool i (class_const_faults p c pool purposes.Type i)
instr_faults p c pool (ops.Jsr target) = Some Unsupported ∷ []
instr_faults p c pool (ops.Ret local) = Some Unsupported ∷ []
instr_faults p c pool (ops.Floating opcode) = Some Unsupported ∷ []
instr_faults p c pool op = []
