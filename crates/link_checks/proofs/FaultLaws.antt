-- The first rule that is broken in lists of rules one after the other.
use Rattle.std.proofs.Common.{◌≡◌, ℕ, Bool, true, false, not, cond, List, [], ◌∷◌, ◌++◌, Option, Some, refl, ap, ◌∙◌}
use Rattle.std.specs.Option.{option_or}
use Rattle.std.specs.List.{flat_map, enumerate_from}
use Rattle.items.specs.First.{unless, first_some, first_in}
use Rattle.items.proofs.FirstLaws.{first_append, first_flat, first_map}
use Rattle.class_model.specs.declared.constant.Const.{Const}
use Rattle.class_model.specs.declared.attribute.CodeBody.{CodeBody}
use Rattle.class_model.specs.declared.class_file.ClassFile.{ClassFile}
use Rattle.link_rules.specs.declared.fault.LinkFault.{LinkFault}
use Rattle.link_rules.specs.declared.why.LinkWhy.{LinkWhy}
use Rattle.link_rules.specs.declared.why.LinkWhy.TheVariants.{BadCode}
use Rattle.link_rules.specs.Program.{Program}
use Rattle.link_rules.specs.Instructions.{Faults}
use Rattle.link_rules.specs.Faults.{Decoded, decoded, instr_faults_in, row_faults, code_faults, name_faults, parent_faults, interface_faults_at, field_faults_at, method_faults_at, method_code_faults, class_faults_at, fault_in, numbered_faults, link_fault}
use Rattle.link_checks.specs.Firsts.{instr_why, row_why, interface_why, field_why, method_why, code_why, class_why, fault_of_class}

abbrev pub bad_why : Bool → Option LinkWhy
bad_why b = unless (not b) BadCode

-- the faults of a code that is decoded so
pub code_is : (p : Program) (c : ℕ) (pool : List Const) (body : CodeBody) (d : Decoded) → decoded body.code ≡ d
    → first_some (code_faults p c pool body) ≡ option_or (option_or (first_in (instr_why p c pool) d.instrs) (bad_why d.is_bad)) (first_in (row_why p c pool) body.rows)
code_is p c pool body d e =
    ap (λ (x : Decoded). first_some ((flat_map (instr_faults_in p c pool) x.instrs ++ cond x.is_bad (Some BadCode ∷ []) []) ++ flat_map (row_faults p c pool) body.rows)) e
    ∙ first_append (flat_map (instr_faults_in p c pool) d.instrs ++ cond d.is_bad (Some BadCode ∷ []) []) (flat_map (row_faults p c pool) body.rows)
    ∙ ap (λ o. option_or o (first_some (flat_map (row_faults p c pool) body.rows))) (first_append (flat_map (instr_faults_in p c pool) d.instrs) (cond d.is_bad (Some BadCode ∷ []) []))
    ∙ ap (λ o. option_or (option_or o (first_some (cond d.is_bad (Some BadCode ∷ []) []))) (first_some (flat_map (row_faults p c pool) body.rows))) (first_flat (instr_faults_in p c pool) d.instrs)
    ∙ ap (λ o. option_or (option_or (first_in (instr_why p c pool) d.instrs) o) (first_some (flat_map (row_faults p c pool) body.rows))) (bad d.is_bad)
    ∙ ap (option_or (option_or (first_in (instr_why p c pool) d.instrs) (bad_why d.is_bad))) (first_flat (row_faults p c pool) body.rows)
  where
    bad : (b : Bool) → first_some (cond b (Some BadCode ∷ []) []) ≡ bad_why b
    bad true = refl
    bad false = refl

-- the faults of a class, part by part
pub class_is : (p : Program) (c : ℕ) (f : ClassFile) → class_why p c f
    ≡ option_or (option_or (option_or (option_or (option_or (first_some (name_faults p c f)) (first_some (parent_faults p c f))) (first_in (interface_why p c f) f.interfaces))
    (first_in (field_why p c f) (enumerate_from 0 f.fields))) (first_in (method_why p c f) (enumerate_from 0 f.methods))) (first_in (code_why p c f.pool) f.methods)
class_is p c f =
    first_append ((((name_faults p c f ++ parent_faults p c f) ++ interfaces) ++ fields) ++ methods) codes
    ∙ ap (λ o. option_or o (first_some codes)) (first_append (((name_faults p c f ++ parent_faults p c f) ++ interfaces) ++ fields) methods)
    ∙ ap (λ o. option_or (option_or o (first_some methods)) (first_some codes)) (first_append ((name_faults p c f ++ parent_faults p c f) ++ interfaces) fields)
    ∙ ap (λ o. option_or (option_or (option_or o (first_some fields)) (first_some methods)) (first_some codes)) (first_append (name_faults p c f ++ parent_faults p c f) interfaces)
    ∙ ap (λ o. option_or (option_or (option_or (option_or o (first_some interfaces)) (first_some fields)) (first_some methods)) (first_some codes)) (first_append (name_faults p c f) (parent_faults p c f))
    ∙ ap (λ o. option_or (option_or (option_or (option_or above o) (first_some fields)) (first_some methods)) (first_some codes)) (first_flat (interface_faults_at p c f) f.interfaces)
    ∙ ap (λ o. option_or (option_or (option_or (option_or above (first_in (interface_why p c f) f.interfaces)) o) (first_some methods)) (first_some codes)) (first_flat (λ x. field_faults_at p c f x.0 x.1) (enumerate_from 0 f.fields))
    ∙ ap (λ o. option_or (option_or (option_or (option_or above (first_in (interface_why p c f) f.interfaces)) (first_in (field_why p c f) (enumerate_from 0 f.fields))) o) (first_some codes)) (first_flat (λ x. method_faults_at p c f x.0 x.1) (enumerate_from 0 f.methods))
    ∙ ap (option_or (option_or (option_or (option_or above (first_in (interface_why p c f) f.interfaces)) (first_in (field_why p c f) (enumerate_from 0 f.fields))) (first_in (method_why p c f) (enumerate_from 0 f.methods)))) (first_flat (method_code_faults p c f.pool) f.methods)
  where
    above : Option LinkWhy
    above = option_or (first_some (name_faults p c f)) (first_some (parent_faults p c f))

    interfaces : Faults
    interfaces = flat_map (interface_faults_at p c f) f.interfaces

    fields : Faults
    fields = flat_map (λ x. field_faults_at p c f x.0 x.1) (enumerate_from 0 f.fields)

    methods : Faults
    methods = flat_map (λ x. method_faults_at p c f x.0 x.1) (enumerate_from 0 f.methods)

    codes : Faults
    codes = flat_map (method_code_faults p c f.pool) f.methods

-- the first fault of a program, class by class
pub program_is : (p : Program) → link_fault p ≡ first_in (fault_of_class p) (enumerate_from 0 p.classes)
program_is p =
    first_flat (numbered_faults p) (enumerate_from 0 p.classes)
    ∙ ap (λ (first : ℕ × ClassFile → Option LinkFault). first_in first (enumerate_from 0 p.classes)) (λ i x. first_map (fault_in x.1) (class_faults_at p x.0 x.1) i)

pub or_of : {A : Type 0} {a a' b b' r : Option A} → a ≡ a' → b ≡ b' → r ≡ option_or a b → r ≡ option_or a' b'
or_of {a' = a'} {b = b} p q e = e ∙ ap (λ o. option_or o b) p ∙ ap (option_or a') q
