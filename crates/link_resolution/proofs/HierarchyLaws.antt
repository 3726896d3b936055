-- What the tables of a hierarchy say past the end of the classes, and of what is above a class.
use Rattle.std.proofs.Common.{◌≡◌, ℕ, ◌+◌, ◌<◌, ◌≤◌, List, [], ◌∷◌, ◌++◌, length, reverse, get_or, Option, Some, None, ap, ◌∙◌, arith}
use Rattle.std.specs.Prelude.{slice_get}
use Rattle.std.specs.Option.{option_map_or, option_to_list}
use Rattle.std.proofs.lemmas.Option.{slice_get_past, slice_get-get_or}
use Rattle.std.proofs.lemmas.List.{reverse-reverse}
use Rattle.link_rules.specs.Program.{Program, class_at}
use Rattle.link_rules.specs.Hierarchy.{directs, parent_of, parent_in, interfaces_in, supers, superclasses, visit, climb, edges}
use Rattle.link_resolution.specs.Tables.{tabulate, parent_at, above}
use Rattle.link_resolution.proofs.TableLaws.{row-tabulate, parent-tabulate}
use Rattle.class_model.specs.declared.class_file.ClassFile.{ClassFile}

-- nothing is said of a class that isn't there
pub class_at_none : {A : Type 0} (of : ClassFile → A) (d : A) (p : Program) (c : ℕ) → length p.classes ≤ c → class_at of d p c ≡ d
class_at_none of d p c h = ap (λ o. option_map_or of o d) (slice_get_past p.classes c h)

pub no_parent : (p : Program) (c : ℕ) → length p.classes ≤ c → parent_of p c ≡ None
no_parent p c h = class_at_none (parent_in p) None p c h

no_directs : (p : Program) (c : ℕ) → length p.classes ≤ c → directs p c ≡ []
no_directs p c h = ap (λ xs. xs ++ option_to_list (parent_of p c)) (class_at_none (interfaces_in p) [] p c h) ∙ ap option_to_list (no_parent p c h)

-- the table of what is directly above, the other way round, says it
pub above_is : (p : Program) (stacked : List (List ℕ)) → stacked ≡ tabulate (λ c. reverse (directs p c)) (length p.classes) → above stacked ≡ directs p
above_is p stacked e = λ i c. at c i
  where
    at : (c : ℕ) → above stacked c ≡ directs p c
    at c = ap (λ rows. above rows c) e
        ∙ ap reverse (row-tabulate (λ d. reverse (directs p d)) (length p.classes) (λ d h. ap reverse (no_directs p d h)) c)
        ∙ reverse-reverse (directs p c)

some_at : {A : Type 0} (xs : List A) (c : ℕ) → c < length xs → (x : A) × (slice_get xs c ≡ Some x)
some_at [] c h = absurd (omega arith)
some_at (x ∷ xs) c h = (get_or (x ∷ xs) c x, slice_get-get_or (x ∷ xs) c x h)

-- what is said of a class that is there
here : {A : Type 0} (v d : A) (p : Program) (c : ℕ) → c < length p.classes → class_at (λ f. v) d p c ≡ v
here v d p c h = ap (λ o. option_map_or (λ f. v) o d) (some_at p.classes c h).1

pub superclasses_here : (p : Program) (c : ℕ) → c < length p.classes → superclasses p c ≡ climb (parent_of p) (length p.classes) c
superclasses_here p c h = here (climb (parent_of p) (length p.classes) c) [] p c h

pub supers_here : (p : Program) (c : ℕ) → c < length p.classes → supers p c ≡ visit (directs p) (edges p (length p.classes) + 1) (c ∷ []) []
supers_here p c h = here (visit (directs p) (edges p (length p.classes) + 1) (c ∷ []) []) [] p c h

pub no_supers : (p : Program) (c : ℕ) → length p.classes ≤ c → supers p c ≡ []
no_supers p c h = class_at_none (λ f. visit (directs p) (edges p (length p.classes) + 1) (c ∷ []) []) [] p c h

pub no_superclasses : (p : Program) (c : ℕ) → length p.classes ≤ c → superclasses p c ≡ []
no_superclasses p c h = class_at_none (λ f. climb (parent_of p) (length p.classes) c) [] p c h

-- the table of the superclasses says them
pub parents_are : (p : Program) (parents : List (Option ℕ)) → parents ≡ tabulate (parent_of p) (length p.classes) → parent_at parents ≡ parent_of p
parents_are p parents e = λ i c. at c i
  where
    at : (c : ℕ) → parent_at parents c ≡ parent_of p c
    at c = ap (λ rows. parent_at rows c) e ∙ parent-tabulate (parent_of p) (length p.classes) (no_parent p) c
