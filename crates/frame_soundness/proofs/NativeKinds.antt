-- What a native method takes and gives back, by kinds and by types.
use Rattle.std.proofs.Common.{◌≡◌, Bool, true, false, List, [], ◌∷◌, ◌++◌, Option, Some, None, Result, Ok, refl, ap, sym, ◌∙◌}
use Rattle.std.specs.Prelude.{map, reverse, ◌==◌, if◌then◌else◌}
use Rattle.std.specs.Option.{option_map}
use Rattle.std.proofs.lemmas.List.{reverse-append}
use Rattle.descriptors.specs.declared.kind.ElementType.{ElementType}
use Rattle.descriptors.specs.declared.kind.ElementType.TheVariants as elements
use Rattle.descriptors.specs.declared.kind.Kind.{Kind as FieldType}
use Rattle.descriptors.specs.declared.kind.Signature.{Signature}
use Rattle.lib_table.specs.declared.native.Native.{Native}
use Rattle.opcodes.specs.declared.op.ValueKind.{ValueKind}
use Rattle.opcodes.specs.declared.op.ValueKind.TheVariants as kinds
use Rattle.stack_maps.specs.declared.types.VType.{VType}
use Rattle.instruction_rows.specs.declared.row_why.RowWhy.{RowWhy}
use Rattle.instruction_rows.specs.declared.row_why.RowWhy.TheVariants as whys
use Rattle.instruction_rows.specs.Results.{◌then◌}
use Rattle.instruction_rows.specs.Kinds.{Function, kind_of_type}
use Rattle.instruction_rows.specs.TypeEffect.{type_popped, types_popped}
use Rattle.instruction_rows.proofs.Steps.{ok_is}
use Rattle.link_model.specs.World.{World}
use Rattle.verify_types.specs.Assignability.{assignable}
use Rattle.verify_types.specs.ClassTypes.{type_of_element, type_of_kind}
use Rattle.verify_types.specs.Operands.{only_if, popped_as, wanted, all_wanted}
use Rattle.verify_types.specs.Calls.{argument_types}
use Rattle.ref_model.specs.Kinds.{kind_of_element_type, value_kind}
use Rattle.ref_model.specs.Memory.{Memory}
use Rattle.ref_model.specs.NativeRows.{Answer, native, row_kinds}
use Rattle.ref_model.specs.Natives.{native_row, native_takes}
use Rattle.ref_model.specs.Operands.{argument_kinds}
use Rattle.frame_soundness.specs.NativeLaws.{IsBack}
use Rattle.ref_model.proofs.NativeLaws.{rows_take}
use Rattle.frame_soundness.specs.NativeKinds.{has_element_kind, has_kind, GivesKind}
use Rattle.frame_soundness.proofs.ValueLaws.{wanted_is}

-- ---- the kinds of types

element_kind : (w : World) (element : ElementType) → has_element_kind element ≡ true
    → kind_of_type (type_of_element w element) ≡ Some (kind_of_element_type element)
element_kind w elements.Byte has = refl
element_kind w elements.Char has = refl
element_kind w elements.Double has = absurd cc
element_kind w elements.Float has = absurd cc
element_kind w elements.Int has = refl
element_kind w elements.Long has = refl
element_kind w elements.Short has = refl
element_kind w elements.Bool has = refl
element_kind w (elements.Class name) has = refl

no_element_kind : (w : World) (element : ElementType) → has_element_kind element ≡ false
    → kind_of_type (type_of_element w element) ≡ None
no_element_kind w elements.Byte has = absurd cc
no_element_kind w elements.Char has = absurd cc
no_element_kind w elements.Double has = refl
no_element_kind w elements.Float has = refl
no_element_kind w elements.Int has = absurd cc
no_element_kind w elements.Long has = absurd cc
no_element_kind w elements.Short has = absurd cc
no_element_kind w elements.Bool has = absurd cc
no_element_kind w (elements.Class name) has = absurd cc

by_dimensions : (b : Bool) (t named : VType) (k : ValueKind) (has : Bool) → kind_of_type named ≡ Some kinds.Reference
    → (has ≡ true → kind_of_type t ≡ Some k) → (if b then has else true) ≡ true
    → kind_of_type (if b then t else named) ≡ Some (if b then k else kinds.Reference)
by_dimensions true t named k has array element e = element e
by_dimensions false t named k has array element e = array

pub type_kind : (w : World) (t : FieldType) → has_kind t ≡ true → kind_of_type (type_of_kind w t) ≡ Some (value_kind t)
type_kind w t has =
    by_dimensions (t.dimensions == 0) (type_of_element w t.element) _ (kind_of_element_type t.element) (has_element_kind t.element) refl
    (element_kind w t.element) has

none_by_dimensions : (b : Bool) (t named : VType) (has : Bool) → (has ≡ false → kind_of_type t ≡ None) → (if b then has else true) ≡ false
    → kind_of_type (if b then t else named) ≡ None
none_by_dimensions true t named has element e = element e
none_by_dimensions false t named has element e = absurd cc

no_type_kind : (w : World) (t : FieldType) → has_kind t ≡ false → kind_of_type (type_of_kind w t) ≡ None
no_type_kind w t has =
    none_by_dimensions (t.dimensions == 0) (type_of_element w t.element) _ (has_element_kind t.element) (no_element_kind w t.element) has

-- ---- arguments

same_types : (a b : List VType) → ◌≡◌ {A = Result (List VType) RowWhy} (Ok a) (Ok b) → a ≡ b
same_types a b e = cc

-- an operand of a type is one of its kind
pub kind_popped : (w : World) (t : FieldType) (ts rest : List VType) → wanted w (type_of_kind w t) ts ≡ Ok rest
    → (x : VType × List VType) × (type_popped (value_kind t) ts ≡ Ok x) × (x.1 ≡ rest)
kind_popped w t ts rest e = by (has_kind t) refl
  where
    by : (b : Bool) → has_kind t ≡ b → (x : VType × List VType) × (type_popped (value_kind t) ts ≡ Ok x) × (x.1 ≡ rest)
    by true has = wanted_is w (type_of_kind w t) (value_kind t) ts rest (type_kind w t has) e
    by false has =
        let none = no_type_kind w t has in
        let here = ap (λ o. popped_as o ts then λ x. only_if (assignable w x.0 (type_of_kind w t)) whys.Kind x.1) (sym none) ∙ e in
        absurd cc

-- such, one after the other
all_popped : (w : World) (args : List FieldType) (ts rest : List VType) → all_wanted w (map (type_of_kind w) args) ts ≡ Ok rest
    → types_popped (map value_kind args) ts ≡ Ok rest
all_popped w [] ts rest e = e
all_popped w (t ∷ args) ts rest e =
    let below = ok_is (wanted w (type_of_kind w t) ts) (λ us. all_wanted w (map (type_of_kind w) args) us) rest e in
    let x = kind_popped w t ts below.0 below.1 in
    ap (λ r. r then λ (y : VType × List VType). types_popped (map value_kind args) y.1) x.1
    ∙ ap (λ us. types_popped (map value_kind args) us) x.2 ∙ all_popped w args below.0 rest below.2

joined_map : {A B : Type 0} (f : A → B) (xs ys : List A) → map f (xs ++ ys) ≡ map f xs ++ map f ys
joined_map f [] ys = refl
joined_map f (x ∷ xs) ys = ap (λ zs. f x ∷ zs) (joined_map f xs ys)

pub reversed_map : {A B : Type 0} (f : A → B) (xs : List A) → map f (reverse xs) ≡ reverse (map f xs)
reversed_map f [] = refl
reversed_map f (x ∷ xs) =
    ap (map f) (reverse-append (x ∷ []) xs) ∙ joined_map f (reverse xs) (x ∷ []) ∙ ap (λ ys. ys ++ f x ∷ []) (reversed_map f xs)
    ∙ sym (reverse-append (f x ∷ []) (map f xs))

pub arguments_popped : (w : World) (s : Signature) (ts rest : List VType) → all_wanted w (argument_types w s) ts ≡ Ok rest
    → types_popped (argument_kinds s) ts ≡ Ok rest
arguments_popped w s ts rest e =
    ap (λ ks. types_popped ks ts) (sym (reversed_map value_kind s.args))
    ∙ all_popped w (reverse s.args) ts rest (ap (λ us. all_wanted w us ts) (reversed_map (type_of_kind w) s.args) ∙ e)

-- more below
pub popped_join : (ks more : List ValueKind) (ts rest last : List VType) → types_popped ks ts ≡ Ok rest → types_popped more rest ≡ Ok last
    → types_popped (ks ++ more) ts ≡ Ok last
popped_join [] more ts rest last first below = ap (types_popped more) (same_types ts rest first) ∙ below
popped_join (k ∷ ks) more ts rest last first below =
    let x = ok_is (type_popped k ts) (λ (x : VType × List VType). types_popped ks x.1) rest first in
    ap (λ r. r then λ (y : VType × List VType). types_popped (ks ++ more) y.1) x.1 ∙ popped_join ks more x.0.1 rest last x.2 below

pub popped_alone : (ks : List ValueKind) (ts rest : List VType) → types_popped ks ts ≡ Ok rest → types_popped (ks ++ []) ts ≡ Ok rest
popped_alone ks ts rest e = popped_join ks [] ts rest rest e refl

-- ---- results

pub back_kind : (w : World) (result : Option FieldType) (k : Option ValueKind) → GivesKind result k → IsBack (option_map (type_of_kind w) result) k
back_kind w None None gives = tt
back_kind w None (Some k) gives = absurd cc
back_kind w (Some t) None gives = let e = gives.1 in absurd cc
back_kind w (Some t) (Some k) gives = type_kind w t gives.0 ∙ sym gives.1

-- ---- the table

-- the kinds that a row takes are those that are said of its native method
pub natives_take : (w : World) (r : Memory) (n : Native) (takes : List ValueKind) (act : Function takes Answer)
    → native_row w r n ≡ Some (native takes act) → native_takes n ≡ Some takes
natives_take w r n takes act e = sym (rows_take w r n) ∙ ap row_kinds e
