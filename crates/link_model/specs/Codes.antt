-- The code of methods: its instructions, its exception table and its stack map (JVMS 4.7.3, 4.7.4).
use Rattle.std.specs.Prelude.{ℕ, List, [], ◌∷◌, Option, Some, None, unwrap_or}
use Rattle.std.specs.Option.{option_map, option_map_or}
use Rattle.class_model.specs.declared.attribute.Attribute.{Attribute}
use Rattle.class_model.specs.declared.attribute.Body.{Body}
use Rattle.class_model.specs.declared.attribute.Body.TheVariants as bodies
use Rattle.class_model.specs.declared.attribute.CodeBody.{CodeBody}
use Rattle.class_model.specs.declared.attribute.CodeAttribute.{CodeAttribute}
use Rattle.class_model.specs.declared.attribute.CodeExtra.{CodeExtra}
use Rattle.class_model.specs.declared.attribute.CodeExtra.TheVariants as extras
use Rattle.class_model.specs.declared.member.Member.{Member}
use Rattle.opcodes.specs.declared.op.Instr.{Instr}
use Rattle.items.specs.First.{first_in}
use Rattle.link_rules.specs.Faults.{decoded}
use Rattle.link_model.specs.declared.members.MethodCode.{MethodCode}

abbrev pub code_in : Attribute → Option CodeBody
code_in a = by a.body
  where
    by : Body → Option CodeBody
    by (bodies.Code body) = Some body
    by (bodies.Constant value) = None
    by (bodies.Other bytes) = None

-- the code of a method, which has one at most (JVMS 4.7.3)
abbrev pub body_of : Member → Option CodeBody
body_of m = first_in code_in m.attributes

abbrev pub map_in : CodeAttribute → Option (List ℕ)
map_in a = by a.body
  where
    by : CodeExtra → Option (List ℕ)
    by (extras.StackMap bytes) = Some bytes
    by (extras.Other bytes) = None

-- the body of a map without frames
abbrev pub empty_map : List ℕ
empty_map = 0 ∷ 0 ∷ []

-- the body of the stack map; a code without one has no frames (JVMS 4.7.4)
abbrev pub map_of : CodeBody → List ℕ
map_of body = unwrap_or (first_in map_in body.attributes) empty_map

abbrev pub code_of_body : CodeBody → MethodCode
code_of_body body = record {
  max_stack = body.max_stack;
  max_locals = body.max_locals;
  code = (decoded body.code).instrs;
  rows = body.rows;
  map = map_of body;
}

-- of a method that is abstract or native None (JVMS 4.6)
abbrev pub code_of : Member → Option MethodCode
code_of m = option_map code_of_body (body_of m)

abbrev pub instructions_of : Member → List Instr
instructions_of m = option_map_or (λ (code : MethodCode). code.code) (code_of m) []
