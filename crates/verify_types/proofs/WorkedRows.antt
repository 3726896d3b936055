-- Single methods and types, beside the text of JVMS 4.10.1.
use Rattle.std.proofs.Common.{◌≡◌, ℕ, ◌+◌, pos, true, false, List, [], ◌∷◌, Some, None, refl}
use Rattle.std.specs.Prelude.{codes}
use Rattle.class_model.specs.declared.access_flags.TheConstants.{ACC_STATIC}
use Rattle.class_model.specs.declared.attribute.Row.{Row}
use Rattle.opcodes.specs.declared.op.Op.{Op}
use Rattle.opcodes.specs.declared.op.Op.TheVariants as ops
use Rattle.opcodes.specs.declared.op.Instr.{Instr}
use Rattle.opcodes.specs.declared.op.Simple.TheVariants as simples
use Rattle.opcodes.specs.declared.op.ValueKind.TheVariants as kinds
use Rattle.stack_maps.specs.declared.types.Base.TheVariants as bases
use Rattle.stack_maps.specs.declared.types.VType.{VType}
use Rattle.stack_maps.specs.declared.types.VType.TheVariants as types
use Rattle.stack_maps.specs.Readers.{type_at, wide_frame_at, frame_at, changes_at, changes_of, table_of}
use Rattle.link_model.specs.declared.members.MethodInfo.{MethodInfo}
use Rattle.link_model.specs.declared.members.MethodCode.{MethodCode}
use Rattle.descriptors.specs.declared.kind.ElementType.TheVariants as elements
use Rattle.link_model.specs.declared.sites.Resolution.{Resolution}
use Rattle.link_model.specs.declared.sites.Site.TheVariants as sites
use Rattle.link_model.specs.World.{World}
use Rattle.verify_types.specs.declared.why.VerifyWhy.{VerifyWhy}
use Rattle.verify_types.specs.declared.why.VerifyWhy.TheVariants as whys
use Rattle.verify_types.specs.Assignability.{assignable}
use Rattle.verify_types.specs.Environment.{Environment, environment_of}
use Rattle.verify_types.specs.Faults.{pc_fault, method_fault}

abbrev static_method : MethodInfo
static_method = record { class = 3; flags = ACC_STATIC; name = codes "f"; signature = record { args = []; result = None } }

abbrev constructor : MethodInfo
constructor = record { class = 3; flags = 0; name = codes "<init>"; signature = record { args = []; result = None } }

-- a world of names, without a class of a file, with a constructor, a method and a field of A
abbrev names : World
names = record {
  program = record { classes = []; built_in = 0 };
  names = codes "java/lang/Object" ∷ codes "java/lang/Cloneable" ∷ codes "java/io/Serializable" ∷ codes "A" ∷ codes "java/lang/Throwable" ∷ [];
  arrays = [];
  fields = record { class = 3; flags = 0; name = codes "f"; kind = record { dimensions = 0; element = elements.Int } } ∷ [];
  methods = constructor ∷ static_method ∷ [];
  codes = [];
  resolutions = [];
  catches = [];
}

-- ---- types

abbrev object : VType
object = types.Named 0 (bases.Class 0)

-- a class that isn't in the program
abbrev a : VType
a = types.Named 0 (bases.Class 3)

abbrev array_of : VType → VType
array_of (types.Named n base) = types.Named (n + 1) base
array_of t = types.Named 1 bases.Int

abbrev Fits : VType → VType → Type 0
Fits t u = assignable names t u ≡ true

abbrev Differs : VType → VType → Type 0
Differs t u = assignable names t u ≡ false

class_to_object : Fits a object
class_to_object = refl

object_to_class : Differs object a
object_to_class = refl

null_to_array : Fits types.Null (array_of types.Int)
null_to_array = refl

array_to_cloneable : Fits (array_of types.Int) (types.Named 0 (bases.Class 1))
array_to_cloneable = refl

ints_to_objects : Differs (array_of types.Int) (array_of object)
ints_to_objects = refl

arrays_of_ints_to_objects : Fits (array_of (array_of types.Int)) (array_of object)
arrays_of_ints_to_objects = refl

array_to_objects : Fits (array_of a) (array_of object)
array_to_objects = refl

class_to_array : Differs a (array_of a)
class_to_array = refl

uninitialized_to_object : Differs (types.Uninit 4) object
uninitialized_to_object = refl

-- ---- methods

abbrev at : ℕ → ℕ → Op → Instr
at pc next op = record { pc = pc; next = next; op = op }

abbrev return : Op
return = ops.Simple simples.Return

-- a method with two local variables and two operands, of these instructions, rows and bytes of a map
abbrev code_of : List Instr → List Row → List ℕ → MethodCode
code_of is rows map = record { max_stack = 2; max_locals = 2; code = is; rows = rows; map = map }

abbrev method : MethodInfo → List Instr → List Row → List ℕ → Environment
method m is rows map = environment_of names m (code_of is rows map) [] []

abbrev IsRefused : Environment → ℕ → VerifyWhy → Type 0
IsRefused env pc why = method_fault env ≡ Some (pc_fault pc why)

abbrev IsWell : Environment → Type 0
IsWell env = method_fault env ≡ None

-- lconst_0, lstore_0, goto 5, return
abbrev with_goto : List Instr
with_goto = at 0 1 (ops.PushLong (pos 0)) ∷ at 1 2 (ops.Store kinds.Long 0) ∷ at 2 5 (ops.Goto (pos 5)) ∷ at 5 6 return ∷ []

-- a map with one full frame at 5, with one local variable of this type and an empty stack
abbrev frame_of : ℕ → List ℕ
frame_of type = 0 ∷ 1 ∷ 255 ∷ 0 ∷ 5 ∷ 0 ∷ 1 ∷ type ∷ 0 ∷ 0 ∷ []

-- a long in the first local variable isn't an int
wrong_frame : IsRefused (method static_method with_goto [] (frame_of 1)) 2 whys.Frame
unfolding type_at wide_frame_at frame_at changes_at changes_of table_of
wrong_frame = refl

right_frame : IsWell (method static_method with_goto [] (frame_of 4))
unfolding type_at wide_frame_at frame_at changes_at changes_of table_of
right_frame = refl

-- Top takes either half
top_frame : IsWell (method static_method with_goto [] (frame_of 0))
unfolding type_at wide_frame_at frame_at changes_at changes_of table_of
top_frame = refl

-- without a frame the goto has no target
no_frame : IsRefused (method static_method with_goto [] (0 ∷ 0 ∷ [])) 2 whys.Target
unfolding type_at wide_frame_at frame_at changes_at changes_of table_of
no_frame = refl

-- the map ends in a field
short_map : IsRefused (method static_method with_goto [] (0 ∷ 1 ∷ [])) 0 whys.Map
unfolding type_at wide_frame_at frame_at changes_at changes_of table_of
short_map = refl

-- a frame between instructions: same locals, at 4
stray_frame : IsRefused (method static_method (at 0 1 (ops.PushLong (pos 0)) ∷ at 1 2 (ops.Store kinds.Long 0) ∷ at 2 5 (ops.Store kinds.Int 0) ∷ []) [] (0 ∷ 1 ∷ 4 ∷ [])) 2 whys.Depth
unfolding type_at wide_frame_at frame_at changes_at changes_of table_of
stray_frame = refl

stray_after : IsRefused (method static_method (at 0 3 (ops.PushInt (pos 0)) ∷ at 3 4 return ∷ []) [] (0 ∷ 1 ∷ 2 ∷ [])) 2 whys.Map
unfolding type_at wide_frame_at frame_at changes_at changes_of table_of
stray_after = refl

-- code that runs past its end
no_return : IsRefused (method static_method (at 0 1 (ops.PushInt (pos 0)) ∷ []) [] (0 ∷ 0 ∷ [])) 0 whys.End
unfolding type_at wide_frame_at frame_at changes_at changes_of table_of
no_return = refl

-- three operands where there may be two
too_deep : IsRefused (method static_method (at 0 1 (ops.PushInt (pos 0)) ∷ at 1 2 (ops.PushLong (pos 0)) ∷ at 2 3 return ∷ []) [] (0 ∷ 0 ∷ [])) 1 whys.Depth
unfolding type_at wide_frame_at frame_at changes_at changes_of table_of
too_deep = refl

-- a return after which nothing comes
wrong_return : IsRefused (method static_method (at 0 1 (ops.PushInt (pos 0)) ∷ at 1 2 (ops.Simple (simples.ReturnValue kinds.Int)) ∷ []) [] (0 ∷ 0 ∷ [])) 1 whys.Return
unfolding type_at wide_frame_at frame_at changes_at changes_of table_of
wrong_return = refl

-- a constructor that calls no other
unfinished : IsRefused (method constructor (at 0 1 return ∷ []) [] (0 ∷ 0 ∷ [])) 0 whys.Init
unfolding type_at wide_frame_at frame_at changes_at changes_of table_of
unfinished = refl

-- a handler without a frame; the exception is of a class that isn't there
no_handler : IsRefused (method static_method (at 0 1 return ∷ at 1 2 return ∷ []) (record { start = 0; end = 1; handler = 1; catch_type = 0 } ∷ []) (0 ∷ 0 ∷ [])) 0 whys.Frame
unfolding type_at wide_frame_at frame_at changes_at changes_of table_of
no_handler = refl

-- ---- objects that are created

-- what the constants of A, of its constructor and of its field mean
abbrev plain : Resolution
plain = record { site = sites.Plain; class = None; failure = None }

abbrev class_a : Resolution
class_a = record { site = sites.Class 3; class = Some 3; failure = None }

abbrev constructor_a : Resolution
constructor_a = record { site = sites.Method 0; class = Some 3; failure = None }

abbrev constructor_of_object : Resolution
constructor_of_object = record { site = sites.Method 0; class = Some 0; failure = None }

abbrev field_a : Resolution
field_a = record { site = sites.Field 0; class = Some 3; failure = None }

abbrev created : MethodInfo → List Instr → List Row → List Resolution → Environment
created m is rows resolutions = environment_of names m (code_of is rows (0 ∷ 0 ∷ [])) resolutions []

abbrev aload_0 : Op
aload_0 = ops.Load kinds.Reference 0

-- new A, dup, invokespecial, and then another instruction
abbrev new_dup_init : Op → List Instr
new_dup_init op = at 0 3 (ops.New 1) ∷ at 3 4 (ops.Simple simples.Dup) ∷ at 4 7 (ops.InvokeSpecial 2) ∷ at 7 8 op ∷ at 8 9 return ∷ []

made_and_initialized : IsWell (created static_method (new_dup_init (ops.Store kinds.Reference 0)) [] (class_a ∷ plain ∷ constructor_a ∷ []))
unfolding type_at wide_frame_at frame_at changes_at changes_of table_of
made_and_initialized = refl

-- `<init>` of the same object twice
initialized_twice : IsRefused (created static_method (new_dup_init (ops.InvokeSpecial 2)) [] (class_a ∷ plain ∷ constructor_a ∷ constructor_a ∷ [])) 7 whys.Init
unfolding type_at wide_frame_at frame_at changes_at changes_of table_of
initialized_twice = refl

-- the constructor of another class than that of the object
of_another_class : IsRefused (created static_method (new_dup_init (ops.Store kinds.Reference 0)) [] (class_a ∷ plain ∷ constructor_of_object ∷ [])) 4 whys.Init
unfolding type_at wide_frame_at frame_at changes_at changes_of table_of
of_another_class = refl

-- an object that isn't initialized is no array
length_of_new : IsRefused (created static_method (at 0 3 (ops.New 1) ∷ at 3 4 (ops.Simple simples.ArrayLength) ∷ at 4 5 return ∷ []) [] (class_a ∷ [])) 3 whys.Kind
unfolding type_at wide_frame_at frame_at changes_at changes_of table_of
length_of_new = refl

-- aload_0, invokespecial A.<init>, return
abbrev calls_this : List Instr
calls_this = at 0 1 aload_0 ∷ at 1 4 (ops.InvokeSpecial 2) ∷ at 4 5 return ∷ []

this_initialized : IsWell (created constructor calls_this [] (plain ∷ constructor_a ∷ []))
unfolding type_at wide_frame_at frame_at changes_at changes_of table_of
this_initialized = refl

-- the same in the range of a row of the exception table
abbrev all_covered : Row
all_covered = record { start = 0; end = 4; handler = 4; catch_type = 0 }

this_in_range : IsRefused (environment_of names constructor (code_of calls_this (all_covered ∷ []) (0 ∷ 1 ∷ 68 ∷ 0 ∷ [])) (plain ∷ constructor_a ∷ []) []) 1 whys.Init
unfolding type_at wide_frame_at frame_at changes_at changes_of table_of
this_in_range = refl

-- a field of the class may be set before another constructor is called, and not be got
field_set_early : IsWell (created constructor (at 0 1 aload_0 ∷ at 1 2 (ops.PushInt (pos 0)) ∷ at 2 5 (ops.PutField 3) ∷ at 5 6 aload_0 ∷ at 6 9 (ops.InvokeSpecial 2) ∷ at 9 10 return ∷ []) [] (plain ∷ plain ∷ field_a ∷ plain ∷ constructor_a ∷ []))
unfolding type_at wide_frame_at frame_at changes_at changes_of table_of
field_set_early = refl

field_gotten_early : IsRefused (created constructor (at 0 1 aload_0 ∷ at 1 4 (ops.GetField 3) ∷ at 4 5 return ∷ []) [] (plain ∷ field_a ∷ [])) 1 whys.Kind
unfolding type_at wide_frame_at frame_at changes_at changes_of table_of
field_gotten_early = refl

-- ---- exception handlers

-- nop, return, return, with a row over the first that goes to the last
abbrev handled : List ℕ → Environment
handled map = method static_method (at 0 1 (ops.Simple simples.Nop) ∷ at 1 2 return ∷ at 2 3 return ∷ []) (record { start = 0; end = 1; handler = 2; catch_type = 0 } ∷ []) map

-- a frame at 2 with one item on the stack, Top
with_handler : IsWell (handled (0 ∷ 1 ∷ 66 ∷ 0 ∷ []))
unfolding type_at wide_frame_at frame_at changes_at changes_of table_of
with_handler = refl

-- a frame with an empty stack can't take the exception
stackless_handler : IsRefused (handled (0 ∷ 1 ∷ 2 ∷ [])) 0 whys.Handler
unfolding type_at wide_frame_at frame_at changes_at changes_of table_of
stackless_handler = refl
