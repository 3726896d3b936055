-- A small world for facts about threads: Thread and a subclass of it, exceptions, and code that waits.
use Rattle.std.proofs.Common.{ℕ, List, [], ◌∷◌, ◌++◌, Some, None}
use Rattle.std.specs.Prelude.{codes}
use Rattle.class_model.specs.declared.class_file.ClassFile.{ClassFile}
use Rattle.class_model.specs.declared.constant.Const.TheVariants.{Unused, Utf8, Class}
use Rattle.descriptors.specs.declared.kind.ElementType.TheVariants as elements
use Rattle.opcodes.specs.declared.op.Instr.{Instr}
use Rattle.opcodes.specs.declared.op.Op.TheVariants as ops
use Rattle.opcodes.specs.declared.op.Simple.TheVariants as simples
use Rattle.link_model.specs.declared.members.FieldInfo.{FieldInfo}
use Rattle.link_model.specs.declared.members.MethodInfo.{MethodInfo}
use Rattle.link_model.specs.declared.sites.Resolution.{Resolution}
use Rattle.link_model.specs.declared.sites.Site.TheVariants as sites
use Rattle.link_model.specs.World.{World}
use Rattle.ref_model.proofs.WorkedWorld.{object_name, instr, code, nothing, of_nothing}

-- ---- classes

-- a class file of these names, which declares a method of this name, with these flags and this descriptor
abbrev declaring : List ℕ → List ℕ → List ℕ → List ℕ → ℕ → ClassFile
declaring own parent name descriptor flags = record {
  minor = 0;
  major = 61;
  pool = Unused ∷ Utf8 own ∷ Class 1 ∷ Utf8 parent ∷ Class 3 ∷ Utf8 name ∷ Utf8 descriptor ∷ [];
  flags = 0x21;
  own = 2;
  parent = 4;
  interfaces = [];
  fields = [];
  methods = record { flags = flags; name = 5; descriptor = 6; attributes = [] } ∷ [];
  attributes = [];
}

abbrev without_methods : List ℕ → List ℕ → ClassFile
without_methods own parent = record (declaring own parent [] [] 0) { methods = [] }

abbrev pub thread_name : List ℕ
thread_name = codes "java/lang/Thread"

abbrev exception_names : List (List ℕ)
exception_names =
    codes "java/lang/InterruptedException"
    ∷ codes "java/lang/IllegalArgumentException"
    ∷ codes "java/lang/IllegalMonitorStateException"
    ∷ codes "java/lang/IllegalThreadStateException"
    ∷ codes "java/lang/OutOfMemoryError"
    ∷ []

-- the numbers of classes
abbrev pub of_thread : ℕ
of_thread = 1

abbrev pub interrupted_exception : ℕ
interrupted_exception = 2

abbrev pub illegal_argument : ℕ
illegal_argument = 3

abbrev pub illegal_monitor_state : ℕ
illegal_monitor_state = 4

abbrev pub illegal_thread_state : ℕ
illegal_thread_state = 5

abbrev pub out_of_memory_error : ℕ
out_of_memory_error = 6

-- a subclass of Thread whose run is synchronized
abbrev pub guarded_thread : ℕ
guarded_thread = 8

abbrev pub names : List (List ℕ)
names =
    object_name ∷ thread_name ∷ exception_names
    ++ codes "java/util/concurrent/locks/LockSupport"
    ∷ codes "Guarded"
    ∷ codes "Code"
    ∷ codes "java/lang/String"
    ∷ []

-- Object declares wait(), Thread run(), LockSupport park(), Guarded a synchronized run(), and Code two methods of the same descriptor.
abbrev files : List ClassFile
files =
    declaring object_name (codes "none") (codes "wait") (codes "()V") 0x101
    ∷ declaring thread_name object_name (codes "run") (codes "()V") 1
    ∷ without_methods (codes "java/lang/InterruptedException") object_name
    ∷ without_methods (codes "java/lang/IllegalArgumentException") object_name
    ∷ without_methods (codes "java/lang/IllegalMonitorStateException") object_name
    ∷ without_methods (codes "java/lang/IllegalThreadStateException") object_name
    ∷ without_methods (codes "java/lang/OutOfMemoryError") object_name
    ∷ declaring (codes "java/util/concurrent/locks/LockSupport") object_name (codes "park") (codes "()V") 0x109
    ∷ declaring (codes "Guarded") thread_name (codes "run") (codes "()V") 0x21
    ∷ declaring (codes "Code") object_name (codes "main") (codes "()V") 9
    ∷ without_methods (codes "java/lang/String") object_name
    ∷ []

-- ---- methods: 0 wait, 1 run, 2 park, 3 the synchronized run, 4 main, and 5, which is static and synchronized

abbrev method : ℕ → ℕ → List ℕ → MethodInfo
method class flags name = record { class = class; flags = flags; name = name; signature = nothing }

abbrev methods : List MethodInfo
methods =
    method 0 0x101 (codes "wait")
    ∷ method 1 1 (codes "run")
    ∷ method 7 0x109 (codes "park")
    ∷ method 8 0x21 (codes "run")
    ∷ method 9 9 (codes "main")
    ∷ method 9 0x29 (codes "guarded")
    ∷ []

abbrev pub main_method : ℕ
main_method = 4

-- monitorenter, park, wait, a call of the synchronized method, monitorexit, and a return
abbrev main_code : List Instr
main_code =
    instr 1 2 (ops.Simple simples.MonitorEnter)
    ∷ instr 2 5 (ops.InvokeStatic 1)
    ∷ instr 5 8 (ops.InvokeVirtual 2)
    ∷ instr 8 11 (ops.InvokeStatic 3)
    ∷ instr 11 12 (ops.Simple simples.MonitorExit)
    ∷ instr 12 13 (ops.Simple simples.Return)
    ∷ []

abbrev main_resolutions : List Resolution
main_resolutions =
    of_nothing
    ∷ record { site = sites.Method 2; class = Some 7; failure = None }
    ∷ record { site = sites.Method 0; class = Some 0; failure = None }
    ∷ record { site = sites.Method 5; class = Some 9; failure = None }
    ∷ []

-- a method that returns at once
abbrev returning : List Instr
returning = instr 0 1 (ops.Simple simples.Return) ∷ []

-- the fields of Thread: what run calls, and the number
abbrev fields : List FieldInfo
fields =
    record { class = 1; flags = 2; name = codes "0target"; kind = record { dimensions = 0; element = elements.Class object_name } }
    ∷ record { class = 1; flags = 2; name = codes "0number"; kind = record { dimensions = 0; element = elements.Int } }
    ∷ []

abbrev pub thread_world : World
thread_world = record {
  program = record { classes = files; built_in = 11 };
  names = names;
  arrays = [];
  fields = fields;
  methods = methods;
  codes =
      None ∷ Some (code 1 1 returning []) ∷ None ∷ Some (code 1 1 returning []) ∷ Some (code 2 1 main_code []) ∷ Some (code 1 0 returning [])
      ∷ [];
  resolutions = [] ∷ [] ∷ [] ∷ [] ∷ main_resolutions ∷ [] ∷ [];
  catches = [] ∷ [] ∷ [] ∷ [] ∷ [] ∷ [] ∷ [];
}
