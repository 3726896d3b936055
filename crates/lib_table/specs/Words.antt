-- The words of Java in which the built-in classes are declared.
use Rattle.std.specs.Prelude.{ℕ, List, [], ◌∷◌, Option, Some, None, map, codes}
use Prim.Native.String.{String}
use Rattle.std.specs.Option.{option_map}
use Rattle.class_model.specs.declared.access_flags.TheConstants.{ACC_PUBLIC, ACC_PRIVATE, ACC_STATIC, ACC_FINAL, ACC_NATIVE, ACC_INTERFACE, ACC_ABSTRACT}
use Rattle.lib_table.specs.declared.native.Native.{Native}
use Rattle.lib_table.specs.Instructions as instructions
use Rattle.lib_table.specs.Instructions.{Instruction, aload_0, aload_1, return_void}
use Rattle.lib_table.specs.Declarations.{Class, Field, Method, Body, abstract_body, native_body, code_body}

-- ---- flags (JVMS 4.1, 4.5, 4.6); the flags of a declaration are their sum

abbrev pub public : ℕ
public = ACC_PUBLIC

abbrev pub private : ℕ
private = ACC_PRIVATE

abbrev pub static : ℕ
static = ACC_STATIC

abbrev pub final : ℕ
final = ACC_FINAL

abbrev pub native : ℕ
native = ACC_NATIVE

abbrev pub interface : ℕ
interface = ACC_INTERFACE

abbrev pub abstract : ℕ
abstract = ACC_ABSTRACT

abbrev pub package_private : ℕ
package_private = 0

-- ---- declarations (JLS 8, 9)

-- a class: its flags, name, superclass, superinterfaces, fields and methods
abbrev pub class : ℕ → String → Option String → List String → List Field → List Method → Class
class flags name parent interfaces fields methods =
    record { flags = flags; name = codes name; parent = option_map codes parent; interfaces = map codes interfaces; fields = fields; methods = methods }

abbrev pub field : ℕ → String → String → Field
field flags name descriptor = record { flags = flags; name = codes name; descriptor = codes descriptor }

abbrev pub method_with : Body → ℕ → String → String → Method
method_with body flags name descriptor = record { flags = flags; name = codes name; descriptor = codes descriptor; body = body }

abbrev pub abstract_method : ℕ → String → String → Method
abstract_method flags name descriptor = method_with abstract_body flags name descriptor

abbrev pub native_method : ℕ → String → String → Native → Method
native_method flags name descriptor native = method_with (native_body native) flags name descriptor

-- a method with its greatest stack and locals, the pc of its only stack map frame, and its code
abbrev pub method : ℕ → String → String → ℕ → ℕ → Option ℕ → List Instruction → Method
method flags name descriptor max_stack max_locals frame instructions =
    method_with (code_body (record { max_stack = max_stack; max_locals = max_locals; instructions = instructions; frame = frame })) flags name descriptor

-- ---- instructions that name something (JVMS 6.5)

abbrev pub ldc_w : String → Instruction
ldc_w text = instructions.ldc_w (codes text)

abbrev pub getfield : String → String → String → Instruction
getfield class name descriptor = instructions.getfield (codes class) (codes name) (codes descriptor)

abbrev pub putfield : String → String → String → Instruction
putfield class name descriptor = instructions.putfield (codes class) (codes name) (codes descriptor)

abbrev pub invokevirtual : String → String → String → Instruction
invokevirtual class name descriptor = instructions.invokevirtual (codes class) (codes name) (codes descriptor)

abbrev pub invokespecial : String → String → String → Instruction
invokespecial class name descriptor = instructions.invokespecial (codes class) (codes name) (codes descriptor)

abbrev pub invokestatic : String → String → String → Instruction
invokestatic class name descriptor = instructions.invokestatic (codes class) (codes name) (codes descriptor)

-- the last number is that of the argument slots with the receiver
abbrev pub invokeinterface : String → String → String → ℕ → Instruction
invokeinterface class name descriptor count = instructions.invokeinterface (codes class) (codes name) (codes descriptor) count

abbrev pub new_object : String → Instruction
new_object name = instructions.new_object (codes name)

-- ---- throwables

-- a throwable with the two constructors that each has, by its flags, its name and its superclass
abbrev pub throwable : ℕ → String → String → Class
throwable flags name parent =
    class flags name (Some parent) []
    []
    (method public "<init>" "()V" 1 1 None
    (aload_0
    ∷ invokespecial parent "<init>" "()V"
    ∷ return_void ∷ [])
    ∷ method public "<init>" "(Ljava/lang/String;)V" 2 2 None
    (aload_0
    ∷ aload_1
    ∷ invokespecial parent "<init>" "(Ljava/lang/String;)V"
    ∷ return_void ∷ [])
    ∷ [])
