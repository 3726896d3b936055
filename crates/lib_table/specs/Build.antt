-- The class file of a declaration (JVMS 4.1): the class, its superclass and superinterfaces, its fields and its methods are built in
-- this order, each with the constants that it names.
use Rattle.std.specs.Prelude.{ℕ, ◌-◌, List, [], ◌∷◌, ◌++◌, Option, Some, None, length, codes}
use Rattle.std.specs.List.{fold}
use Rattle.std.specs.Int.{w16, to_be_bytes}
use Rattle.class_model.specs.declared.constant.Const.{Const}
use Rattle.class_model.specs.declared.constant.Const.TheVariants as constants
use Rattle.class_model.specs.declared.attribute.Attribute.{Attribute}
use Rattle.class_model.specs.declared.attribute.Body.TheVariants as bodies
use Rattle.class_model.specs.declared.attribute.CodeBody.{CodeBody}
use Rattle.class_model.specs.declared.attribute.CodeAttribute.{CodeAttribute}
use Rattle.class_model.specs.declared.attribute.CodeExtra.TheVariants as extras
use Rattle.class_model.specs.declared.member.Member.{Member}
use Rattle.class_model.specs.declared.class_file.ClassFile.{ClassFile}
use Rattle.lib_table.specs.Instructions.{Instruction, Operand, nothing, text_index, class_index, field_index, method_index, interface_index, offset_to}
use Rattle.lib_table.specs.Declarations.{Class, Field, Method, Body, Code, abstract_body, native_body, code_body}
use Rattle.lib_table.specs.Pool as pools
use Rattle.lib_table.specs.Pool.{◌then◌}

-- the things of a list one after the other, where each may add to the pool
abbrev pub with_next : {A B : Type 0} → (A → List Const → B × List Const) → List B × List Const → A → List B × List Const
with_next build done x = build x done.1 then λ y pool. (done.0 ++ y ∷ [], pool)

abbrev pub all : {A B : Type 0} → (A → List Const → B × List Const) → List A → List Const → List B × List Const
all build xs pool = fold (with_next build) ([], pool) xs

-- ---- code (JVMS 4.7.3, 6.5)

abbrev pub u2 : ℕ → List ℕ
u2 n = to_be_bytes w16 n

-- code with what comes after the opcode of the instruction at a pc
abbrev pub with_operand : ℕ → Operand → List ℕ → List Const → List ℕ × List Const
with_operand pc nothing code pool = (code, pool)
with_operand pc (text_index units) code pool = pools.string units pool then λ index pool. (code ++ u2 index, pool)
with_operand pc (class_index name) code pool = pools.class name pool then λ index pool. (code ++ u2 index, pool)
with_operand pc (field_index class name descriptor) code pool = pools.field class name descriptor pool then λ index pool. (code ++ u2 index, pool)
with_operand pc (method_index class name descriptor) code pool = pools.method class name descriptor pool then λ index pool. (code ++ u2 index, pool)
with_operand pc (interface_index class name descriptor count) code pool =
    pools.interface_method class name descriptor pool then λ index pool. (code ++ u2 index ++ count ∷ 0 ∷ [], pool)
with_operand pc (offset_to target) code pool = (code ++ u2 (target - pc), pool)

-- code with one more instruction
unfoldable pub with_instruction : List ℕ × List Const → Instruction → List ℕ × List Const
with_instruction done i = with_operand (length done.0) i.operand (done.0 ++ i.opcode ∷ []) done.1

-- the number of frames, and one with the first locals and an empty operand stack, whose type is its pc (JVMS 4.7.4)
abbrev pub same_frame : ℕ → List ℕ
same_frame pc = u2 1 ++ pc ∷ []

unfoldable pub stack_map : ℕ → List Const → List CodeAttribute × List Const
stack_map pc pool =
    pools.text (codes "StackMapTable") pool then λ name pool. (record { name = name; body = extras.StackMap (same_frame pc) } ∷ [], pool)

abbrev pub frames : Option ℕ → List Const → List CodeAttribute × List Const
frames None pool = ([], pool)
frames (Some pc) pool = stack_map pc pool

unfoldable pub code : Code → List Const → CodeBody × List Const
code c pool =
    fold with_instruction ([], pool) c.instructions then λ bytes pool. frames c.frame pool then λ attributes pool.
    (record { max_stack = c.max_stack; max_locals = c.max_locals; code = bytes; rows = []; attributes = attributes }, pool)

unfoldable pub code_attribute : Code → List Const → List Attribute × List Const
code_attribute c pool =
    pools.text (codes "Code") pool then λ name pool. code c pool then λ body pool. (record { name = name; body = bodies.Code body } ∷ [], pool)

abbrev pub attributes : Body → List Const → List Attribute × List Const
attributes abstract_body pool = ([], pool)
attributes (native_body native) pool = ([], pool)
attributes (code_body c) pool = code_attribute c pool

-- ---- members (JVMS 4.5, 4.6)

abbrev pub member : ℕ → ℕ → ℕ → List Attribute → Member
member flags name descriptor attributes = record { flags = flags; name = name; descriptor = descriptor; attributes = attributes }

unfoldable pub field : Field → List Const → Member × List Const
field f pool =
    pools.text f.name pool then λ name pool. pools.text f.descriptor pool then λ descriptor pool. (member f.flags name descriptor [], pool)

unfoldable pub method : Method → List Const → Member × List Const
method m pool =
    pools.text m.name pool then λ name pool. pools.text m.descriptor pool then λ descriptor pool. attributes m.body pool then λ attributes pool.
    (member m.flags name descriptor attributes, pool)

-- ---- the class file

-- the index of the superclass, which is 0 for Object (JVMS 4.1)
abbrev pub parent : Option (List ℕ) → List Const → ℕ × List Const
parent None pool = (0, pool)
parent (Some name) pool = pools.class name pool

-- the class file of Java 17 that has these parts (JVMS 4.1, table 4.1-A)
abbrev pub file : ℕ → ℕ → ℕ → List ℕ → List Member → List Member → List Const → ClassFile
file flags own parent interfaces fields methods pool =
    record { minor = 0; major = 61; pool = pool; flags = flags; own = own; parent = parent; interfaces = interfaces; fields = fields; methods = methods; attributes = [] }

abbrev pub class : Class → List Const → ClassFile × List Const
class c pool =
    pools.class c.name pool then λ own pool. parent c.parent pool then λ parent pool. all pools.class c.interfaces pool then λ interfaces pool.
    all field c.fields pool then λ fields pool. all method c.methods pool then λ methods pool.
    (file c.flags own parent interfaces fields methods pool, pool)

unfoldable pub class_file : Class → ClassFile
class_file c = (class c (constants.Unused ∷ [])).0
