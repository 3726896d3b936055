-- The values with which static fields begin are those of the opening.
use Rattle.std.proofs.Common.{◌≡◌, Bool, true, false, List, [], ◌∷◌, ◌++◌, refl, ap, ◌∙◌, sym}
use Rattle.std.specs.Prelude.{filter, map, if◌then◌else◌}
use Rattle.std.specs.List.{flat_map}
use Rattle.class_model.specs.declared.class_file.ClassFile.{ClassFile}
use Rattle.link_rules.specs.Program.{Program}
use Rattle.link_rules.specs.Members.{is_static}
use Rattle.link_model.specs.Strings.{strings_of}
use Rattle.ref_model.specs.Opening.{opening_statics, statics_in, static_opening}
use Rattle.startup.specs.FirstStatics.{static_values}

kept : {A B : Type 0} (b : Bool) (v : B) (x : A) (xs : List A) (f : A → B) (vs : List B) → f x ≡ v → map f xs ≡ vs
    → (if b then v ∷ [] else []) ++ vs ≡ map f (if b then x ∷ xs else xs)
kept true v x xs f vs e es = sym (ap (λ y. y ∷ map f xs) e ∙ ap (λ ys. v ∷ ys) es)
kept false v x xs f vs e es = sym es

chosen : {A B : Type 0} (test : A → Bool) (f : A → B) (xs : List A)
    → flat_map (λ x. if test x then f x ∷ [] else []) xs ≡ map f (filter test xs)
chosen test f [] = refl
chosen test f (x ∷ xs) =
    kept (test x) (f x) x (filter test xs) f (flat_map (λ y. if test y then f y ∷ [] else []) xs) refl (sym (chosen test f xs))

file_values : (p : Program) (f : ClassFile) → static_values (strings_of p) f ≡ statics_in p f
file_values p f = chosen is_static (static_opening p f) f.fields

all_values : (p : Program) (files : List ClassFile) → flat_map (static_values (strings_of p)) files ≡ flat_map (statics_in p) files
all_values p [] = refl
all_values p (f ∷ fs) =
    ap (λ vs. vs ++ flat_map (static_values (strings_of p)) fs) (file_values p f) ∙ ap (λ vs. statics_in p f ++ vs) (all_values p fs)

pub statics_are : (p : Program) → flat_map (static_values (strings_of p)) p.classes ≡ opening_statics p
statics_are p = all_values p p.classes
