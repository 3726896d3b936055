-- A small world for facts at single values: seven classes, four array classes, and a few methods.
use Rattle.std.proofs.Common.{ℕ, pos, List, [], ◌∷◌, Some, None}
use Rattle.std.specs.Prelude.{codes}
use Rattle.class_model.specs.declared.class_file.ClassFile.{ClassFile}
use Rattle.class_model.specs.declared.constant.Const.TheVariants.{Unused, Utf8, Class}
use Rattle.class_model.specs.declared.attribute.Row.{Row}
use Rattle.descriptors.specs.declared.kind.ElementType.TheVariants as elements
use Rattle.descriptors.specs.declared.kind.Signature.{Signature}
use Rattle.jvm_words.specs.declared.operation.IntOp.TheVariants as ints
use Rattle.opcodes.specs.declared.op.ValueKind.TheVariants as kinds
use Rattle.opcodes.specs.declared.op.Instr.{Instr}
use Rattle.opcodes.specs.declared.op.Op.{Op}
use Rattle.opcodes.specs.declared.op.Op.TheVariants as ops
use Rattle.opcodes.specs.declared.op.Simple.TheVariants as simples
use Rattle.stack_maps.specs.declared.types.Base.TheVariants as bases
use Rattle.link_model.specs.declared.members.FieldInfo.{FieldInfo}
use Rattle.link_model.specs.declared.members.MethodInfo.{MethodInfo}
use Rattle.link_model.specs.declared.members.MethodCode.{MethodCode}
use Rattle.link_model.specs.declared.sites.ArrayType.{ArrayType}
use Rattle.link_model.specs.declared.sites.Resolution.{Resolution}
use Rattle.link_model.specs.declared.sites.Site.TheVariants as sites
use Rattle.link_model.specs.World.{World}

-- ---- classes

-- a class file of which only the name and the superclass's name are looked at
abbrev pub file : List ℕ → List ℕ → ClassFile
file own parent = record {
  minor = 0;
  major = 61;
  pool = Unused ∷ Utf8 own ∷ Class 1 ∷ Utf8 parent ∷ Class 3 ∷ [];
  flags = 0x21;
  own = 2;
  parent = 4;
  interfaces = [];
  fields = [];
  methods = [];
  attributes = [];
}

abbrev pub object_name : List ℕ
object_name = codes "java/lang/Object"

-- the superclass of Object isn't there
abbrev pub files : List ClassFile
files =
    file object_name (codes "none")
    ∷ file (codes "java/lang/ArithmeticException") object_name
    ∷ file (codes "java/lang/String") object_name
    ∷ file (codes "java/lang/OutOfMemoryError") object_name
    ∷ file (codes "java/io/PrintStream") object_name
    ∷ file (codes "java/lang/Thread") object_name
    ∷ file (codes "java/lang/Thread$State") object_name
    ∷ file (codes "A") object_name
    ∷ []

abbrev pub names : List (List ℕ)
names =
    object_name
    ∷ codes "java/lang/ArithmeticException"
    ∷ codes "java/lang/String"
    ∷ codes "java/lang/OutOfMemoryError"
    ∷ codes "java/io/PrintStream"
    ∷ codes "java/lang/Thread"
    ∷ codes "java/lang/Thread$State"
    ∷ codes "A"
    ∷ []

-- int[], int[][], byte[], Object[], String[], with the numbers 8 to 12
abbrev pub arrays : List ArrayType
arrays =
    record { dimensions = 1; base = bases.Int }
    ∷ record { dimensions = 2; base = bases.Int }
    ∷ record { dimensions = 1; base = bases.Byte }
    ∷ record { dimensions = 1; base = bases.Class 0 }
    ∷ record { dimensions = 1; base = bases.Class 2 }
    ∷ []

-- ---- fields of A: two of its objects, a byte and a long, and a static one between them

abbrev pub fields : List FieldInfo
fields =
    record { class = 7; flags = 0; name = codes "small"; kind = record { dimensions = 0; element = elements.Byte } }
    ∷ record { class = 7; flags = 8; name = codes "shared"; kind = record { dimensions = 0; element = elements.Char } }
    ∷ record { class = 7; flags = 0; name = codes "large"; kind = record { dimensions = 0; element = elements.Long } }
    ∷ []

-- ---- methods

abbrev pub instr : ℕ → ℕ → Op → Instr
instr pc next op = record { pc = pc; next = next; op = op }

abbrev pub nothing : Signature
nothing = record { args = []; result = None }

-- main divides 7 by 0
abbrev pub divide : List Instr
divide =
    instr 0 2 (ops.PushInt (pos 7))
    ∷ instr 2 3 (ops.PushInt (pos 0))
    ∷ instr 3 4 (ops.Simple (simples.IntBinary ints.Div))
    ∷ instr 4 5 (ops.Simple simples.Pop)
    ∷ instr 5 6 (ops.Simple simples.Return)
    ∷ []

-- code without an exception table, or with these rows
abbrev pub code : ℕ → ℕ → List Instr → List Row → MethodCode
code max_stack max_locals instrs rows =
    record { max_stack = max_stack; max_locals = max_locals; code = instrs; rows = rows; map = 0 ∷ 0 ∷ [] }

-- the division is covered, and its handler is at 4, which drops the exception
abbrev pub covered : Row
covered = record { start = 3; end = 4; handler = 4; catch_type = 0 }

-- a method of a byte, that pushes 200 and returns it; it is called by the method after it
abbrev pub two_hundred : List Instr
two_hundred = instr 0 3 (ops.PushInt (pos 200)) ∷ instr 3 4 (ops.Simple (simples.ReturnValue kinds.Int)) ∷ []

abbrev pub call : List Instr
call = instr 0 3 (ops.InvokeStatic 1) ∷ instr 3 4 (ops.Simple simples.Pop) ∷ instr 4 5 (ops.Simple simples.Return) ∷ []

abbrev pub method : List ℕ → Signature → MethodInfo
method name signature = record { class = 7; flags = 9; name = name; signature = signature }

abbrev pub of_nothing : Resolution
of_nothing = record { site = sites.Plain; class = None; failure = None }

-- The main methods: 0 catches nothing, 1 catches what its division throws, 3 calls 2.
abbrev pub world : World
world = record {
  program = record { classes = files; built_in = 7 };
  names = names;
  arrays = arrays;
  fields = fields;
  methods =
      method (codes "main") nothing
      ∷ method (codes "careful") nothing
      ∷ method (codes "two_hundred") (record { args = []; result = Some (record { dimensions = 0; element = elements.Byte }) })
      ∷ method (codes "caller") nothing
      ∷ [];
  codes =
      Some (code 2 1 divide [])
      ∷ Some (code 2 1 divide (covered ∷ []))
      ∷ Some (code 1 0 two_hundred [])
      ∷ Some (code 1 1 call [])
      ∷ [];
  resolutions = [] ∷ [] ∷ [] ∷ (record { site = sites.Method 2; class = Some 7; failure = None } ∷ []) ∷ [];
  catches = [] ∷ (None ∷ []) ∷ [] ∷ [] ∷ [];
}
