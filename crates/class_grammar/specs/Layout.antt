-- The bytes of a class file: its parts one after the other, each number with its highest byte first (JVMS 4.1
-- to 4.7). Which values have a spelling is said in Grammar; here each value has at most one.
use Rattle.std.specs.Prelude.{ℕ, List, [], ◌∷◌, ◌++◌, length}
use Rattle.std.specs.Int.{w16, w32, w64, to_be_bytes, cast_unsigned}
use Rattle.std.specs.List.{flat_map}
use Rattle.class_model.specs.declared.tags.TheConstants.{TAG_UTF8, TAG_INTEGER, TAG_FLOAT, TAG_LONG, TAG_DOUBLE, TAG_CLASS, TAG_STRING, TAG_FIELDREF, TAG_METHODREF, TAG_INTERFACE_METHODREF, TAG_NAME_AND_TYPE, TAG_METHOD_HANDLE, TAG_METHOD_TYPE, TAG_DYNAMIC, TAG_INVOKE_DYNAMIC, TAG_MODULE, TAG_PACKAGE}
use Rattle.class_model.specs.declared.constant.Const.{Const}
use Rattle.class_model.specs.declared.constant.Const.TheVariants.{Unused, Utf8, Integer, Float, Long, Double, Class, Text, Fieldref, Methodref, InterfaceMethodref, NameAndType, MethodHandle, MethodType, Dynamic, InvokeDynamic, Module, Package}
use Rattle.class_model.specs.declared.attribute.Attribute.{Attribute}
use Rattle.class_model.specs.declared.attribute.Body.{Body}
use Rattle.class_model.specs.declared.attribute.Body.TheVariants.{Code, Constant, Other}
use Rattle.class_model.specs.declared.attribute.CodeBody.{CodeBody}
use Rattle.class_model.specs.declared.attribute.Row.{Row}
use Rattle.class_model.specs.declared.attribute.CodeAttribute.{CodeAttribute}
use Rattle.class_model.specs.declared.attribute.CodeExtra.{CodeExtra}
use Rattle.class_model.specs.declared.attribute.CodeExtra.TheVariants as extras
use Rattle.class_model.specs.declared.member.Member.{Member}
use Rattle.class_model.specs.declared.class_file.ClassFile.{ClassFile}
use Rattle.jvm_utf8.specs.Text.{text}

abbrev pub u1 : ℕ → List ℕ
u1 n = n ∷ []

abbrev pub u2 : ℕ → List ℕ
u2 n = to_be_bytes w16 n

abbrev pub u4 : ℕ → List ℕ
u4 n = to_be_bytes w32 n

abbrev pub u8 : ℕ → List ℕ
u8 n = to_be_bytes w64 n

-- a count, and that many parts
abbrev pub table : {X : Type 0} → (X → List ℕ) → List X → List ℕ
table part xs = u2 (length xs) ++ flat_map part xs

-- a length in four bytes, and that many bytes
abbrev pub length_and_bytes : List ℕ → List ℕ
length_and_bytes bytes = u4 (length bytes) ++ bytes

-- a length in two bytes, and that many bytes (JVMS 4.4.7)
abbrev pub string : List ℕ → List ℕ
string bytes = u2 (length bytes) ++ bytes

-- an entry of the constant pool: its tag and its body (JVMS 4.4)
abbrev pub constant : Const → List ℕ
constant Unused = []
constant (Utf8 units) = u1 TAG_UTF8 ++ string (text units)
constant (Integer n) = u1 TAG_INTEGER ++ u4 (cast_unsigned w32 n)
constant (Float bits) = u1 TAG_FLOAT ++ u4 bits
constant (Long n) = u1 TAG_LONG ++ u8 (cast_unsigned w64 n)
constant (Double bits) = u1 TAG_DOUBLE ++ u8 bits
constant (Class name) = u1 TAG_CLASS ++ u2 name
constant (Text units) = u1 TAG_STRING ++ u2 units
constant (Fieldref class member) = u1 TAG_FIELDREF ++ u2 class ++ u2 member
constant (Methodref class member) = u1 TAG_METHODREF ++ u2 class ++ u2 member
constant (InterfaceMethodref class member) = u1 TAG_INTERFACE_METHODREF ++ u2 class ++ u2 member
constant (NameAndType name descriptor) = u1 TAG_NAME_AND_TYPE ++ u2 name ++ u2 descriptor
constant (MethodHandle kind member) = u1 TAG_METHOD_HANDLE ++ u1 kind ++ u2 member
constant (MethodType descriptor) = u1 TAG_METHOD_TYPE ++ u2 descriptor
constant (Dynamic bootstrap member) = u1 TAG_DYNAMIC ++ u2 bootstrap ++ u2 member
constant (InvokeDynamic bootstrap member) = u1 TAG_INVOKE_DYNAMIC ++ u2 bootstrap ++ u2 member
constant (Module name) = u1 TAG_MODULE ++ u2 name
constant (Package name) = u1 TAG_PACKAGE ++ u2 name

-- a row of an exception table (JVMS 4.7.3)
abbrev pub row : Row → List ℕ
row r = u2 r.start ++ u2 r.end ++ u2 r.handler ++ u2 r.catch_type

abbrev pub code_extra : CodeExtra → List ℕ
code_extra (extras.StackMap bytes) = bytes
code_extra (extras.Other bytes) = bytes

abbrev pub code_attribute : CodeAttribute → List ℕ
code_attribute a = u2 a.name ++ length_and_bytes (code_extra a.body)

-- the body of a Code attribute (JVMS 4.7.3)
abbrev pub code : CodeBody → List ℕ
code c = u2 c.max_stack ++ u2 c.max_locals ++ length_and_bytes c.code ++ table row c.rows ++ table code_attribute c.attributes

abbrev pub body : Body → List ℕ
body (Code c) = code c
body (Constant value) = u2 value
body (Other bytes) = bytes

-- an attribute (JVMS 4.7)
abbrev pub attribute : Attribute → List ℕ
attribute a = u2 a.name ++ length_and_bytes (body a.body)

-- a field or a method (JVMS 4.5, 4.6)
abbrev pub member : Member → List ℕ
member m = u2 m.flags ++ u2 m.name ++ u2 m.descriptor ++ table attribute m.attributes

-- the first bytes of every class file (JVMS 4.1)
abbrev pub magic : ℕ
magic = 0xcafebabe

-- what precedes the flags of the class
abbrev pub head : ClassFile → List ℕ
head f = u4 magic ++ u2 f.minor ++ u2 f.major ++ table constant f.pool

-- the whole file (JVMS 4.1)
abbrev pub class_file : ClassFile → List ℕ
class_file f =
    head f ++ u2 f.flags ++ u2 f.own ++ u2 f.parent
    ++ table u2 f.interfaces ++ table member f.fields ++ table member f.methods ++ table attribute f.attributes
