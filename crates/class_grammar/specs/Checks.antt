-- The checks on the references, names, descriptors and ranges of a class file (JVMS 4.1 to 4.9; own where a line says so), as
-- one list in the order of the file: the size of each item in bytes, and what is wrong with it, if anything is. Items that
-- can't be wrong are taken together.
use Rattle.std.specs.Prelude.{ℕ, ◌+◌, ◌-◌, Bool, true, false, not, List, [], ◌∷◌, ◌++◌, length, map, codes, Option, Some, None, Result, Ok, Err, is_some, slice_get, bit_and, nat_lt, nat_le, ◌==◌, ◌||◌, if◌then◌else◌}
use Rattle.std.specs.Option.{option_map_or}
use Rattle.std.specs.List.{flat_map, list_any}
use Rattle.class_model.specs.declared.access_flags.TheConstants.{ACC_ABSTRACT, ACC_MODULE, ACC_NATIVE, ACC_STATIC}
use Rattle.class_model.specs.declared.constant.Const.{Const}
use Rattle.class_model.specs.declared.constant.Const.TheVariants.{Unused, Utf8, Integer, Float, Long, Double, Class, Text, Fieldref, Methodref, InterfaceMethodref, NameAndType, MethodHandle, MethodType, Dynamic, InvokeDynamic, Module, Package}
use Rattle.class_model.specs.declared.attribute.Attribute.{Attribute}
use Rattle.class_model.specs.declared.attribute.Body.{Body}
use Rattle.class_model.specs.declared.attribute.Body.TheVariants.{Code, Constant, Other}
use Rattle.class_model.specs.declared.attribute.CodeBody.{CodeBody}
use Rattle.class_model.specs.declared.attribute.Row.{Row}
use Rattle.class_model.specs.declared.attribute.CodeAttribute.{CodeAttribute}
use Rattle.class_model.specs.declared.member.Member.{Member}
use Rattle.class_model.specs.declared.class_file.ClassFile.{ClassFile}
use Rattle.jvm_utf8.specs.Text.{unit}
use Rattle.descriptors.specs.States.{is_field, is_method}
use Rattle.class_grammar.specs.declared.class_why.ClassWhy.{ClassWhy}
use Rattle.class_grammar.specs.declared.class_why.ClassWhy.TheVariants as whys
use Rattle.byte_reader.specs.declared.fault.Fault.{Fault}
use Rattle.class_grammar.specs.Text.{same_text}
use Rattle.class_grammar.specs.Names.{is_field_name, is_method_name, is_class_text, is_like_method, object_class, string_descriptor}
use Rattle.class_grammar.specs.Layout.{code_extra}
use Rattle.class_grammar.specs.Pool.{text_at, is_class_named}

pub record Item : Type 0 where
  pub size : ℕ
  pub fault : Option ClassWhy

-- this many bytes, which can't be wrong
abbrev pub sound_bytes : ℕ → Item
sound_bytes size = record { size = size; fault = None }

-- a number in two bytes that may be wrong
abbrev pub u2_item : Option ClassWhy → Item
u2_item fault = record { size = 2; fault = fault }

-- this fault, unless the test has passed
abbrev pub unless : Bool → ClassWhy → Option ClassWhy
unless passed why = if passed then None else Some why

-- ---- references

-- whether there is a constant at the index that passes the test
abbrev pub holds : (Const → Bool) → List Const → ℕ → Bool
holds test pool index = option_map_or test (slice_get pool index) false

abbrev pub is_class : Const → Bool
is_class (Class name) = true
is_class c = false

-- an index of a class
abbrev pub class_fault : List Const → ℕ → Option ClassWhy
class_fault pool index = unless (holds is_class pool index) whys.Index

-- an index of a text that passes the test
abbrev pub text_fault : (List ℕ → Bool) → ClassWhy → List Const → ℕ → Option ClassWhy
text_fault test why pool index = option_map_or (λ units. unless (test units) why) (text_at pool index) (Some whys.Index)

-- an index of any text
abbrev pub any_text_fault : List Const → ℕ → Option ClassWhy
any_text_fault pool index = unless (is_some (text_at pool index)) whys.Index

-- a NameAndType whose descriptor passes the test, if it is a text at all
abbrev pub descriptor_fault : (List ℕ → Bool) → List Const → Const → Option ClassWhy
descriptor_fault test pool (NameAndType name descriptor) = option_map_or (λ units. unless (test units) whys.Descriptor) (text_at pool descriptor) None
descriptor_fault test pool c = Some whys.Index

-- an index of a NameAndType of a method, or of a field
abbrev pub of_method_fault : List Const → ℕ → Option ClassWhy
of_method_fault pool index = option_map_or (descriptor_fault is_like_method pool) (slice_get pool index) (Some whys.Index)

abbrev pub of_field_fault : List Const → ℕ → Option ClassWhy
of_field_fault pool index = option_map_or (descriptor_fault (λ units. not (is_like_method units)) pool) (slice_get pool index) (Some whys.Index)

-- ---- the constant pool (JVMS 4.4)

-- The name in a NameAndType is a method's where the descriptor is a text that begins as a method's (JVMS 4.4.6).
abbrev pub name_fault : List Const → ℕ → ℕ → Option ClassWhy
name_fault pool name descriptor =
    if option_map_or is_like_method (text_at pool descriptor) false then text_fault is_method_name whys.Name pool name
    else text_fault is_field_name whys.Name pool name

abbrev pub is_descriptor : List ℕ → Bool
is_descriptor units = if is_like_method units then is_method units else is_field units

abbrev pub text_items : List ℕ → List Item
text_items units = map (λ u. sound_bytes (length (unit u))) units

-- What MethodHandle, Dynamic, InvokeDynamic, Module and Package refer to isn't checked.
abbrev pub constant_items : List Const → Const → List Item
constant_items pool Unused = []
constant_items pool (Utf8 units) = sound_bytes 3 ∷ text_items units
constant_items pool (Integer n) = sound_bytes 5 ∷ []
constant_items pool (Float bits) = sound_bytes 5 ∷ []
constant_items pool (Long n) = sound_bytes 9 ∷ []
constant_items pool (Double bits) = sound_bytes 9 ∷ []
constant_items pool (Class name) = sound_bytes 1 ∷ u2_item (text_fault is_class_text whys.Name pool name) ∷ []
constant_items pool (Text units) = sound_bytes 1 ∷ u2_item (any_text_fault pool units) ∷ []
constant_items pool (Fieldref class member) = sound_bytes 1 ∷ u2_item (class_fault pool class) ∷ u2_item (of_field_fault pool member) ∷ []
constant_items pool (Methodref class member) = sound_bytes 1 ∷ u2_item (class_fault pool class) ∷ u2_item (of_method_fault pool member) ∷ []
constant_items pool (InterfaceMethodref class member) = sound_bytes 1 ∷ u2_item (class_fault pool class) ∷ u2_item (of_method_fault pool member) ∷ []
constant_items pool (NameAndType name descriptor) =
    sound_bytes 1 ∷ u2_item (name_fault pool name descriptor) ∷ u2_item (text_fault is_descriptor whys.Descriptor pool descriptor) ∷ []
constant_items pool (MethodHandle kind member) = sound_bytes 4 ∷ []
constant_items pool (MethodType descriptor) = sound_bytes 1 ∷ u2_item (text_fault is_method whys.Descriptor pool descriptor) ∷ []
constant_items pool (Dynamic bootstrap member) = sound_bytes 5 ∷ []
constant_items pool (InvokeDynamic bootstrap member) = sound_bytes 5 ∷ []
constant_items pool (Module name) = sound_bytes 3 ∷ []
constant_items pool (Package name) = sound_bytes 3 ∷ []

-- ---- the class itself (JVMS 4.1)

-- the file isn't that of a module
abbrev pub flags_fault : ℕ → Option ClassWhy
flags_fault flags = unless (bit_and flags ACC_MODULE == 0) whys.Unsupported

-- whether the class at the index is java/lang/Object
abbrev pub is_object : List Const → ℕ → Bool
is_object pool own = is_class_named object_class pool own

-- Object, and no other class, has no parent
abbrev pub parent_fault : List Const → ℕ → ℕ → Option ClassWhy
parent_fault pool own parent =
    if is_object pool own then unless (parent == 0) whys.Index
    else class_fault pool parent

abbrev pub interface_items : List Const → List ℕ → List Item
interface_items pool interfaces = map (λ index. u2_item (class_fault pool index)) interfaces

abbrev pub class_items : ClassFile → List Item
class_items f =
    u2_item (flags_fault f.flags) ∷ u2_item (class_fault f.pool f.own) ∷ u2_item (parent_fault f.pool f.own f.parent)
    ∷ sound_bytes 2 ∷ interface_items f.pool f.interfaces

-- ---- code (JVMS 4.7.3)

-- an index of a class, or 0 for every throwable
abbrev pub catch_fault : List Const → ℕ → Option ClassWhy
catch_fault pool index = if index == 0 then None else class_fault pool index

-- a row covers a part of the code, which has this size, and its handler is inside
abbrev pub row_items : List Const → ℕ → Row → List Item
row_items pool size r =
    u2_item (unless (nat_lt r.start r.end) whys.Range) ∷ u2_item (unless (nat_le r.end size) whys.Range)
    ∷ u2_item (unless (nat_lt r.handler size) whys.Range) ∷ u2_item (catch_fault pool r.catch_type) ∷ []

abbrev pub extra_items : CodeAttribute → List Item
extra_items a = sound_bytes 6 ∷ sound_bytes (length (code_extra a.body)) ∷ []

abbrev pub code_items : List Const → CodeBody → List Item
code_items pool c =
    sound_bytes 8 ∷ sound_bytes (length c.code) ∷ sound_bytes 2
    ∷ (flat_map (row_items pool (length c.code)) c.rows ++ sound_bytes 2 ∷ flat_map extra_items c.attributes)

-- ---- fields and methods (JVMS 4.5, 4.6, 4.7.2)

abbrev pub is_static : ℕ → Bool
is_static flags = bit_and flags ACC_STATIC == ACC_STATIC

-- whether the constant is the value of a field of this type
abbrev pub has_type : List ℕ → Const → Bool
has_type type (Integer n) =
    same_text type (codes "I") || same_text type (codes "S") || same_text type (codes "C") || same_text type (codes "B") || same_text type (codes "Z")
has_type type (Float bits) = same_text type (codes "F")
has_type type (Long n) = same_text type (codes "J")
has_type type (Double bits) = same_text type (codes "D")
has_type type (Text units) = same_text type string_descriptor
has_type type c = false

-- whether the constant is a value at all
abbrev pub is_value : Const → Bool
is_value (Integer n) = true
is_value (Float bits) = true
is_value (Long n) = true
is_value (Double bits) = true
is_value (Text units) = true
is_value c = false

-- whether the constant at the index is the value of a field with this descriptor
abbrev pub is_value_of : List Const → ℕ → ℕ → Bool
is_value_of pool descriptor index = option_map_or (λ type. holds (has_type type) pool index) (text_at pool descriptor) false

-- A static field's ConstantValue has the field's type. Any other field's is ignored, but refers to a value.
abbrev pub value_fault : List Const → Member → ℕ → Option ClassWhy
value_fault pool m index =
    if is_static m.flags then unless (is_value_of pool m.descriptor index) whys.Index
    else unless (holds is_value pool index) whys.Index

abbrev pub body_items : List Const → Member → Body → List Item
body_items pool m (Code c) = code_items pool c
body_items pool m (Constant value) = u2_item (value_fault pool m value) ∷ []
body_items pool m (Other bytes) = sound_bytes (length bytes) ∷ []

abbrev pub attribute_items : List Const → Member → Attribute → List Item
attribute_items pool m a = sound_bytes 6 ∷ body_items pool m a.body

abbrev pub attributes_items : List Const → Member → List Item
attributes_items pool m = sound_bytes 2 ∷ flat_map (attribute_items pool m) m.attributes

abbrev pub field_items : List Const → Member → List Item
field_items pool m =
    sound_bytes 2 ∷ u2_item (text_fault is_field_name whys.Name pool m.name) ∷ u2_item (text_fault is_field whys.Descriptor pool m.descriptor)
    ∷ attributes_items pool m

abbrev pub is_code : Attribute → Bool
is_code a = by a.body
  where
    by : Body → Bool
    by (Code c) = true
    by body = false

-- abstract or native
abbrev pub has_no_code : ℕ → Bool
has_no_code flags = not (bit_and flags (ACC_NATIVE + ACC_ABSTRACT) == 0)

-- a method has code where it is neither abstract nor native, and only there
abbrev pub code_fault : Member → Option ClassWhy
code_fault m =
    unless (if has_no_code m.flags then not (list_any is_code m.attributes) else list_any is_code m.attributes) whys.Code

abbrev pub method_items : List Const → Member → List Item
method_items pool m =
    u2_item (code_fault m) ∷ u2_item (text_fault is_method_name whys.Name pool m.name) ∷ u2_item (text_fault is_method whys.Descriptor pool m.descriptor)
    ∷ attributes_items pool m

-- ---- the whole file, up to its own attributes, which can't be wrong

abbrev pub member_items : ClassFile → List Item
member_items f =
    sound_bytes 2 ∷ (flat_map (field_items f.pool) f.fields ++ sound_bytes 2 ∷ flat_map (method_items f.pool) f.methods)

-- the magic number, the version, the count of the pool, and the pool
abbrev pub pool_items : ClassFile → List Item
pool_items f = sound_bytes 10 ∷ flat_map (constant_items f.pool) f.pool

abbrev pub items : ClassFile → List Item
items f = pool_items f ++ (class_items f ++ member_items f)

-- ---- the first fault

-- how many bytes are left after the items, of those before them, or the first fault
abbrev pub left_after : ℕ → List Item → Result ℕ (Fault ClassWhy)
left_after left [] = Ok left
left_after left (i ∷ is) = elim i.fault [ None ↦ left_after (left - i.size) is | Some why ↦ Err (record { left = left; why = why }) ]

abbrev pub fault_of : {A : Type 0} → Result A (Fault ClassWhy) → Option (Fault ClassWhy)
fault_of (Ok x) = None
fault_of (Err f) = Some f

-- the first fault of a file of this size
unfoldable pub first_fault : ℕ → ClassFile → Option (Fault ClassWhy)
first_fault size f = fault_of (left_after size (items f))

-- how many bytes the items take
abbrev pub size_of : List Item → ℕ
size_of [] = 0
size_of (i ∷ is) = i.size + size_of is
