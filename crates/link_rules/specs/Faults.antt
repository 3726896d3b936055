-- What may be wrong with a program (JVMS 5.3, 5.4), as one list in order: class by class its name, its superclass, its
-- superinterfaces, its fields, its methods, and then method by method the instructions by rising pc and the rows of the exception
-- table. At one place the rules are in the order of LinkWhy.
use Rattle.std.specs.Prelude.{◌≡◌, ℕ, zero, suc, ◌+◌, ◌-◌, Bool, true, false, not, List, [], ◌∷◌, ◌++◌, Option, Some, None, Ok, Err, length, drop, map, ◌==◌, ◌&&◌, ◌||◌, if◌then◌else◌}
use Rattle.std.specs.Option.{option_map, option_map_or}
use Rattle.std.specs.List.{flat_map, list_any, enumerate_from}
use Rattle.items.specs.First.{unless, first_some}
use Rattle.class_model.specs.declared.constant.Const.{Const}
use Rattle.class_model.specs.declared.attribute.Attribute.{Attribute}
use Rattle.class_model.specs.declared.attribute.Body.{Body}
use Rattle.class_model.specs.declared.attribute.Body.TheVariants.{Code, Constant, Other}
use Rattle.class_model.specs.declared.attribute.CodeBody.{CodeBody}
use Rattle.class_model.specs.declared.attribute.Row.{Row}
use Rattle.class_model.specs.declared.member.Member.{Member}
use Rattle.class_model.specs.declared.class_file.ClassFile.{ClassFile}
use Rattle.class_grammar.specs.Text.{same_text}
use Rattle.class_grammar.specs.Names.{object_class, is_initializer}
use Rattle.opcodes.specs.declared.op.Instr.{Instr}
use Rattle.opcodes.specs.declared.op.Op.{Op}
use Rattle.opcodes.specs.Operands.{op_at}
use Rattle.link_rules.specs.declared.fault.LinkFault.{LinkFault}
use Rattle.link_rules.specs.declared.why.LinkWhy.{LinkWhy}
use Rattle.link_rules.specs.declared.why.LinkWhy.TheVariants.{Duplicate, MissingClass, Cycle, WrongKind, FinalParent, Native, BadCode, Unsupported}
use Rattle.link_rules.specs.declared.reference.Purpose.TheVariants as purposes
use Rattle.link_rules.specs.Program.{Program, own_name, parent_name, is_array_name, class_named, is_interface, is_final, is_from_file}
use Rattle.link_rules.specs.Hierarchy.{is_below, superclasses}
use Rattle.link_rules.specs.Members.{Key, index_of, declared_method, has_method, is_open, is_static, is_final_member, is_abstract_method, is_native}
use Rattle.link_rules.specs.Selection.{key_in}
use Rattle.link_rules.specs.Constants.{is_known, names_internal, is_floating, name_at}
use Rattle.link_rules.specs.Instructions.{Faults, instr_faults, class_faults}

-- ---- the name and what is directly above

-- whether the class is the first of this name
abbrev pub is_first_named : Program → ℕ → List ℕ → Bool
is_first_named p c name = option_map_or (λ first. first == c) (class_named p name) false

abbrev pub name_faults : Program → ℕ → ClassFile → Faults
name_faults p c f =
    unless (is_first_named p c (own_name f)) Duplicate
    ∷ unless (not (is_array_name (own_name f))) WrongKind
    ∷ []

-- whether the class of this name is c or has c above it
abbrev pub names_below : Program → ℕ → List ℕ → Bool
names_below p c name = option_map_or (λ d. is_below p d c) (class_named p name) false

-- the same of a name that isn't that of an array class, which may be neither a superclass nor a superinterface
abbrev pub leads_back : Program → ℕ → List ℕ → Bool
leads_back p c name = not (is_array_name name) && names_below p c name

abbrev pub names_interface : Program → List ℕ → Bool
names_interface p name = option_map_or (is_interface p) (class_named p name) false

abbrev pub names_class : Program → List ℕ → Bool
names_class p name = option_map_or (λ d. not (is_interface p d)) (class_named p name) false

abbrev pub names_final : Program → List ℕ → Bool
names_final p name = option_map_or (is_final p) (class_named p name) false

-- whether a class of a file names an internal one
abbrev pub is_internal_to : Program → ℕ → List ℕ → Bool
is_internal_to p c name = is_from_file p c && names_internal p name

-- whether the class of the name may be the superclass: it is no array class and no interface, and an interface has Object
abbrev pub is_parent_kind : Program → ℕ → List ℕ → Bool
is_parent_kind p c name =
    not (is_array_name name || names_interface p name) && (not (is_interface p c) || same_text name object_class)

abbrev pub parent_faults_of : Program → ℕ → List ℕ → Faults
parent_faults_of p c name =
    unless (is_known p name) MissingClass
    ∷ unless (not (leads_back p c name)) Cycle
    ∷ unless (is_parent_kind p c name) WrongKind
    ∷ unless (not (names_final p name)) FinalParent
    ∷ unless (not (is_internal_to p c name)) Unsupported
    ∷ []

-- Object has no superclass (JVMS 4.1)
abbrev pub parent_faults : Program → ℕ → ClassFile → Faults
parent_faults p c f = option_map_or (parent_faults_of p c) (parent_name f) []

abbrev pub interface_faults : Program → ℕ → List ℕ → Faults
interface_faults p c name =
    unless (is_known p name) MissingClass
    ∷ unless (not (leads_back p c name)) Cycle
    ∷ unless (not (is_array_name name) && not (names_class p name)) WrongKind
    ∷ unless (not (is_internal_to p c name)) Unsupported
    ∷ []

-- the superinterface at an index of the file's pool
abbrev pub interface_faults_at : Program → ℕ → ClassFile → ℕ → Faults
interface_faults_at p c f index = interface_faults p c (name_at f.pool index)

-- ---- fields and methods

-- whether the member at the index is the first of its key
abbrev pub is_first : List Const → List Member → ℕ → Member → Bool
is_first pool members i m = option_map_or (λ first. first == i) (index_of pool (key_in pool m) members) false

-- whether a type of the member is float or double
abbrev pub has_floating_type : List Const → Member → Bool
has_floating_type pool m = is_floating (key_in pool m).descriptor

-- the field at an index
abbrev pub field_faults_at : Program → ℕ → ClassFile → ℕ → Member → Faults
field_faults_at p c f i m =
    unless (is_first f.pool f.fields i m) Duplicate
    ∷ unless (not (is_interface p c) || is_static m) WrongKind
    ∷ unless (not (has_floating_type f.pool m)) Unsupported
    ∷ []

-- whether the method can override at all: neither private nor static nor an initializer (JVMS 5.4.5)
abbrev pub can_override : List Const → Member → Bool
can_override pool m = is_open m && not (is_initializer (key_in pool m).name)

-- whether the method of this key that the class declares may not be overridden
abbrev pub is_last : Program → Key → ℕ → Bool
is_last p key d = option_map_or (λ at. has_method (λ m. is_final_member m && is_open m) p at) (declared_method p key d) false

abbrev pub overrides_final : Program → ℕ → List Const → Member → Bool
overrides_final p c pool m = can_override pool m && list_any (is_last p (key_in pool m)) (drop 1 (superclasses p c))

-- the method at an index, its code aside
abbrev pub method_faults_at : Program → ℕ → ClassFile → ℕ → Member → Faults
method_faults_at p c f i m =
    unless (is_first f.pool f.methods i m) Duplicate
    ∷ unless (not (is_abstract_method m && is_static m)) WrongKind
    ∷ unless (not (overrides_final p c f.pool m)) FinalParent
    ∷ unless (not (is_from_file p c && is_native m)) Native
    ∷ unless (not (has_floating_type f.pool m)) Unsupported
    ∷ []

-- ---- code (JVMS 4.7.3)

-- the instructions of a code up to the first that is bad, and whether there is such a one
pub record Decoded : Type 0 where
  pub instrs : List Instr
  pub is_bad : Bool

-- the instruction that was read at pc, where this many bytes were left
abbrev pub read_at : ℕ → ℕ → Op × List ℕ → Instr
read_at pc left x = record { pc = pc; next = pc + (left - length x.1); op = x.0 }

abbrev pub with_first : Instr → Decoded → Decoded
with_first i d = record { instrs = i ∷ d.instrs; is_bad = d.is_bad }

-- Reading goes on from pc, where these bytes are left, for at most n instructions. Each takes at least a byte.
abbrev pub decoded_from : ℕ → ℕ → List ℕ → Decoded
decoded_from zero pc bytes = record { instrs = []; is_bad = false }
decoded_from (suc n) pc [] = record { instrs = []; is_bad = false }
decoded_from (suc n) pc (b ∷ bytes) =
    elim (op_at pc (b ∷ bytes)) [
      | Ok x ↦ with_first (read_at pc (length (b ∷ bytes)) x) (decoded_from n (pc + (length (b ∷ bytes) - length x.1)) x.1)
      | Err fault ↦ record { instrs = []; is_bad = true }
    ]

abbrev pub decoded : List ℕ → Decoded
decoded code = decoded_from (length code) 0 code

-- the class that a row catches; index 0 stands for every throwable
abbrev pub row_faults : Program → ℕ → List Const → Row → Faults
row_faults p c pool r = if r.catch_type == 0 then [] else class_faults p c purposes.Type (name_at pool r.catch_type)

abbrev pub instr_faults_in : Program → ℕ → List Const → Instr → Faults
instr_faults_in p c pool i = instr_faults p c pool i.op

abbrev pub code_faults : Program → ℕ → List Const → CodeBody → Faults
code_faults p c pool body =
    let d = decoded body.code in
    flat_map (instr_faults_in p c pool) d.instrs
    ++ (if d.is_bad then Some BadCode ∷ [] else [])
    ++ flat_map (row_faults p c pool) body.rows

abbrev pub attribute_faults : Program → ℕ → List Const → Attribute → Faults
attribute_faults p c pool a = by a.body
  where
    by : Body → Faults
    by (Code body) = code_faults p c pool body
    by (Constant value) = []
    by (Other bytes) = []

abbrev pub method_code_faults : Program → ℕ → List Const → Member → Faults
method_code_faults p c pool m = flat_map (attribute_faults p c pool) m.attributes

-- ---- a class, and the whole program

abbrev pub class_faults_at : Program → ℕ → ClassFile → Faults
class_faults_at p c f =
    name_faults p c f
    ++ parent_faults p c f
    ++ flat_map (interface_faults_at p c f) f.interfaces
    ++ flat_map (λ x. field_faults_at p c f x.0 x.1) (enumerate_from 0 f.fields)
    ++ flat_map (λ x. method_faults_at p c f x.0 x.1) (enumerate_from 0 f.methods)
    ++ flat_map (method_code_faults p c f.pool) f.methods

-- a fault of this class
abbrev pub fault_in : ClassFile → LinkWhy → LinkFault
fault_in f why = record { class = own_name f; why = why }

-- the rules of the class with this number, each with the fault where it is broken
abbrev pub numbered_faults : Program → ℕ × ClassFile → List (Option LinkFault)
numbered_faults p x = map (option_map (fault_in x.1)) (class_faults_at p x.0 x.1)

-- all rules of a program
abbrev pub link_faults : Program → List (Option LinkFault)
link_faults p = flat_map (numbered_faults p) (enumerate_from 0 p.classes)

-- the first fault of a program
abbrev pub link_fault : Program → Option LinkFault
link_fault p = first_some (link_faults p)

-- a program links where it has no fault
abbrev pub Links : Program → Type 0
Links p = link_fault p ≡ None
