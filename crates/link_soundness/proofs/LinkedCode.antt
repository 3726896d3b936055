-- In a program that links no rule is broken at any instruction.
use Rattle.std.proofs.Common.{◌≡◌, ℕ, zero, suc, ◌+◌, List, [], ◌∷◌, ◌++◌, Option, Some, None, refl, subst}
use Rattle.std.specs.Prelude.{slice_get, if◌then◌else◌}
use Rattle.std.specs.Option.{option_map, option_or}
use Rattle.std.specs.List.{flat_map, enumerate_from}
use Rattle.items.specs.First.{AllNone, Each, first_in}
use Rattle.items.proofs.FirstLaws.{first_none}
use Rattle.class_model.specs.declared.attribute.Attribute.{Attribute}
use Rattle.class_model.specs.declared.attribute.Body.{Body}
use Rattle.class_model.specs.declared.attribute.Body.TheVariants as bodies
use Rattle.class_model.specs.declared.attribute.CodeBody.{CodeBody}
use Rattle.class_model.specs.declared.class_file.ClassFile.{ClassFile}
use Rattle.class_model.specs.declared.constant.Const.{Const}
use Rattle.class_model.specs.declared.member.Member.{Member}
use Rattle.opcodes.specs.declared.op.Instr.{Instr}
use Rattle.link_rules.specs.Program.{Program}
use Rattle.link_rules.specs.Faults.{Links, attribute_faults, class_faults_at, code_faults, decoded, fault_in, field_faults_at, instr_faults_in, interface_faults_at, link_faults, method_code_faults, method_faults_at, name_faults, numbered_faults, parent_faults, row_faults}
use Rattle.link_rules.specs.declared.why.LinkWhy.TheVariants.{BadCode}
use Rattle.link_model.specs.declared.members.MethodCode.{MethodCode}
use Rattle.link_model.specs.Codes.{body_of, code_in, code_of, code_of_body}
use Rattle.verify_types.proofs.ListLaws.{each_flat, each_split, numbered, unmapped}

pub each_at : {A : Type 0} (P : A → Type 0) (xs : List A) (n : ℕ) (x : A) → Each P xs → slice_get xs n ≡ Some x → P x
each_at P [] n x h e = absurd cc
each_at {A} P (y ∷ xs) zero x h e = let same : y ≡ x = cc in subst P same h.0
each_at P (y ∷ xs) (suc n) x h e = each_at P xs n x h.1 e

-- of the class with this number
pub class_links : (p : Program) (c : ℕ) (f : ClassFile) → Links p → slice_get p.classes c ≡ Some f → AllNone (class_faults_at p (0 + c) f)
class_links p c f links file =
    let all = each_flat (λ x. x ≡ None) (numbered_faults p) (enumerate_from 0 p.classes) (first_none (link_faults p) links) in
    unmapped (fault_in f) (class_faults_at p (0 + c) f) (numbered (λ x. AllNone (numbered_faults p x)) 0 c p.classes f all file)

-- of its methods
methods_link : (p : Program) (c : ℕ) (f : ClassFile) → AllNone (class_faults_at p c f) → Each (λ m. AllNone (method_code_faults p c f.pool m)) f.methods
methods_link p c f none =
    let front = name_faults p c f ++ parent_faults p c f ++ flat_map (interface_faults_at p c f) f.interfaces
    ++ flat_map (λ x. field_faults_at p c f x.0 x.1) (enumerate_from 0 f.fields)
    ++ flat_map (λ x. method_faults_at p c f x.0 x.1) (enumerate_from 0 f.methods) in
    each_flat (λ x. x ≡ None) (method_code_faults p c f.pool) f.methods
    (each_split (λ x. x ≡ None) front (flat_map (method_code_faults p c f.pool) f.methods) none).1

-- of the code of a method
attribute_links : (p : Program) (c : ℕ) (pool : List Const) (attributes : List Attribute) (body : CodeBody)
    → Each (λ a. AllNone (attribute_faults p c pool a)) attributes → first_in code_in attributes ≡ Some body → AllNone (code_faults p c pool body)
attribute_links p c pool [] body h e = absurd cc
attribute_links p c pool (a ∷ attributes) body h e = by a.body h.0 e (attribute_links p c pool attributes body h.1)
  where
    with_body : Body → Attribute
    with_body b = record { name = a.name; body = b }

    by : (b : Body) → AllNone (attribute_faults p c pool (with_body b)) → option_or (code_in (with_body b)) (first_in code_in attributes) ≡ Some body
        → (first_in code_in attributes ≡ Some body → AllNone (code_faults p c pool body)) → AllNone (code_faults p c pool body)
    by (bodies.Code own) here e rest =
        let same : own ≡ body = cc in
        let P : CodeBody → Type 0 = λ b. AllNone (code_faults p c pool b) in
        subst P same here
    by (bodies.Constant value) here e rest = rest e
    by (bodies.Other bytes) here e rest = rest e

-- of its instructions
code_links : (p : Program) (c : ℕ) (pool : List Const) (body : CodeBody) → AllNone (code_faults p c pool body)
    → Each (λ i. AllNone (instr_faults_in p c pool i)) (decoded body.code).instrs
code_links p c pool body none =
    let instrs = flat_map (instr_faults_in p c pool) (decoded body.code).instrs in
    let bad = if (decoded body.code).is_bad then Some BadCode ∷ [] else [] in
    let rows = flat_map (row_faults p c pool) body.rows in
    each_flat (λ x. x ≡ None) (instr_faults_in p c pool) (decoded body.code).instrs
    (each_split (λ x. x ≡ None) instrs bad (each_split (λ x. x ≡ None) (instrs ++ bad) rows none).0).0

body_is : (o : Option CodeBody) (code : MethodCode) → option_map code_of_body o ≡ Some code → (body : CodeBody) × (o ≡ Some body) × (code_of_body body ≡ code)
body_is None code e = absurd cc
body_is (Some body) code e = let same : code_of_body body ≡ code = cc in (body, refl, same)

-- of the instructions of a method with code, at these places
pub instructions_link : (p : Program) (c i : ℕ) (f : ClassFile) (m : Member) (code : MethodCode) → Links p → slice_get p.classes c ≡ Some f
    → slice_get f.methods i ≡ Some m → code_of m ≡ Some code → Each (λ (x : Instr). AllNone (instr_faults_in p (0 + c) f.pool x)) code.code
instructions_link p c i f m code links file member e =
    let class = class_links p c f links file in
    let method = each_at (λ x. AllNone (method_code_faults p (0 + c) f.pool x)) f.methods i m (methods_link p (0 + c) f class) member in
    let body = body_is (body_of m) code e in
    let attributes = each_flat (λ x. x ≡ None) (attribute_faults p (0 + c) f.pool) m.attributes method in
    let instrs = code_links p (0 + c) f.pool body.0 (attribute_links p (0 + c) f.pool m.attributes body.0 attributes body.1) in
    let P : MethodCode → Type 0 = λ x. Each (λ (y : Instr). AllNone (instr_faults_in p (0 + c) f.pool y)) x.code in
    subst P body.2 instrs
