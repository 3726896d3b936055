-- What is wrong first in a class, and in one part of it.
use Rattle.std.specs.Prelude.{ℕ, List, Option}
use Rattle.std.specs.Option.{option_map}
use Rattle.items.specs.First.{first_some}
use Rattle.class_model.specs.declared.constant.Const.{Const}
use Rattle.class_model.specs.declared.attribute.Attribute.{Attribute}
use Rattle.class_model.specs.declared.attribute.Row.{Row}
use Rattle.class_model.specs.declared.member.Member.{Member}
use Rattle.class_model.specs.declared.class_file.ClassFile.{ClassFile}
use Rattle.opcodes.specs.declared.op.Instr.{Instr}
use Rattle.link_rules.specs.declared.fault.LinkFault.{LinkFault}
use Rattle.link_rules.specs.declared.why.LinkWhy.{LinkWhy}
use Rattle.link_rules.specs.Program.{Program}
use Rattle.link_rules.specs.Faults.{instr_faults_in, row_faults, attribute_faults, interface_faults_at, field_faults_at, method_faults_at, method_code_faults, class_faults_at, fault_in}

abbrev pub instr_why : Program → ℕ → List Const → Instr → Option LinkWhy
instr_why p c pool i = first_some (instr_faults_in p c pool i)

abbrev pub row_why : Program → ℕ → List Const → Row → Option LinkWhy
row_why p c pool r = first_some (row_faults p c pool r)

abbrev pub attribute_why : Program → ℕ → List Const → Attribute → Option LinkWhy
attribute_why p c pool a = first_some (attribute_faults p c pool a)

abbrev pub interface_why : Program → ℕ → ClassFile → ℕ → Option LinkWhy
interface_why p c f index = first_some (interface_faults_at p c f index)

abbrev pub field_why : Program → ℕ → ClassFile → ℕ × Member → Option LinkWhy
field_why p c f x = first_some (field_faults_at p c f x.0 x.1)

abbrev pub method_why : Program → ℕ → ClassFile → ℕ × Member → Option LinkWhy
method_why p c f x = first_some (method_faults_at p c f x.0 x.1)

abbrev pub code_why : Program → ℕ → List Const → Member → Option LinkWhy
code_why p c pool m = first_some (method_code_faults p c pool m)

abbrev pub class_why : Program → ℕ → ClassFile → Option LinkWhy
class_why p c f = first_some (class_faults_at p c f)

abbrev pub fault_of_class : Program → ℕ × ClassFile → Option LinkFault
fault_of_class p x = option_map (fault_in x.1) (class_why p x.0 x.1)
