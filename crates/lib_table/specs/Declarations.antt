-- Classes as Java declares them (JLS 8, 9). A name of a class has slashes, as in class files (JVMS 4.2.1).
use Rattle.std.specs.Prelude.{ℕ, List, Option, map}
use Rattle.std.specs.Option.{option_map}
use Rattle.std.specs.Borrow.{Bor}
use Rattle.lib_table.specs.declared.native.Native.{Native}
use Rattle.lib_table.specs.Instructions.{Instruction, meaning}
use Rattle.lib_table.specs.declared.declarations.ClassDeclaration.{ClassDeclaration}
use Rattle.lib_table.specs.declared.declarations.FieldDeclaration.{FieldDeclaration}
use Rattle.lib_table.specs.declared.declarations.MethodDeclaration.{MethodDeclaration}
use Rattle.lib_table.specs.declared.declarations.MethodBody.{MethodBody}
use Rattle.lib_table.specs.declared.declarations.MethodBody.TheVariants as bodies
use Rattle.lib_table.specs.declared.declarations.MethodCode.{MethodCode}

-- ---- what a declaration says

-- code with the sizes of its frame (JVMS 4.7.3), and the pc of its only stack map frame, which has the first locals and an empty
-- operand stack
pub record Code : Type 0 where
  pub max_stack : ℕ
  pub max_locals : ℕ
  pub instructions : List Instruction
  pub frame : Option ℕ

pub data Body : Type 0 where
  abstract_body : Body
  native_body : Native → Body
  code_body : Code → Body

pub record Method : Type 0 where
  pub flags : ℕ
  pub name : List ℕ
  pub descriptor : List ℕ
  pub body : Body

pub record Field : Type 0 where
  pub flags : ℕ
  pub name : List ℕ
  pub descriptor : List ℕ

pub record Class : Type 0 where
  pub flags : ℕ
  pub name : List ℕ
  -- Object alone has no superclass
  pub parent : Option (List ℕ)
  pub interfaces : List (List ℕ)
  pub fields : List Field
  pub methods : List Method

-- ---- what the declarations of the code say

abbrev pub code_of : MethodCode → Code
code_of c = record { max_stack = c.max_stack; max_locals = c.max_locals; instructions = map meaning c.instructions.now; frame = c.frame }

abbrev pub body_of : MethodBody → Body
body_of bodies.Abstract = abstract_body
body_of (bodies.Native native) = native_body native
body_of (bodies.Code code) = code_body (code_of code)

abbrev pub method_of : MethodDeclaration → Method
method_of m = record { flags = m.flags; name = m.name.now; descriptor = m.descriptor.now; body = body_of m.body }

abbrev pub field_of : FieldDeclaration → Field
field_of f = record { flags = f.flags; name = f.name.now; descriptor = f.descriptor.now }

abbrev pub name_of : Bor (List ℕ) → List ℕ
name_of name = name.now

abbrev pub parent_of : Option (Bor (List ℕ)) → Option (List ℕ)
parent_of name = option_map name_of name

abbrev pub class_of : ClassDeclaration → Class
class_of c = record {
  flags = c.flags;
  name = c.name.now;
  parent = parent_of c.parent;
  interfaces = map name_of c.interfaces.now;
  fields = map field_of c.fields.now;
  methods = map method_of c.methods.now;
}

abbrev pub group_of : Bor (List ClassDeclaration) → List Class
group_of declarations = map class_of declarations.now
