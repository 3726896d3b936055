-- The fields of objects, from tables.
use Rattle.std.proofs.Common.{◌≡◌, ℕ, ◌+◌, ◌<◌, ◌≤◌, List, [], ◌∷◌, ◌++◌, length, drop, get_or, Option, Some, None, sym, ap, ◌∙◌, add-one, append-nil}
use Rattle.std.specs.Option.{option_map_or, option_to_list}
use Rattle.std.proofs.lemmas.List.{append_assoc}
use Rattle.std.proofs.lemmas.Option.{slice_get-get_or}
use Rattle.std.proofs.Math.Seq.{drop-cons}
use Rattle.class_model.specs.declared.member.Member.{Member}
use Rattle.class_model.specs.declared.class_file.ClassFile.{ClassFile}
use Rattle.link_rules.specs.Program.{Program}
use Rattle.link_rules.specs.Members.{fields_before}
use Rattle.link_resolution.specs.Tables.{row_at, tabulate}
use Rattle.link_resolution.proofs.TableLaws.{row-tabulate}
use Rattle.link_resolution.proofs.HierarchyLaws.{class_at_none, no_superclasses}
use Rattle.link_model.specs.InstanceFields.{own_field, own_fields, own_fields_from, instance_fields}
use Rattle.std.specs.List.{cons_option, enumerate_from, flat_map}
use Rattle.std.specs.Prelude.{filter_map, reverse}

-- one field more
one_field : (o : Option ℕ) (old rest : List ℕ) → old ++ cons_option o rest ≡ (old ++ option_to_list o) ++ rest
one_field None old rest = ap (λ xs. xs ++ rest) (sym (append-nil old))
one_field (Some n) old rest = sym (append_assoc old (n ∷ []) rest)

pub field_more : (first i : ℕ) (fields : List Member) (field : Member) (old new : List ℕ) → i < length fields → field ≡ get_or fields i field
    → own_fields_from first fields ≡ old ++ filter_map (own_field first) (enumerate_from i (drop i fields))
    → new ≡ old ++ option_to_list (own_field first (i, field))
    → own_fields_from first fields ≡ new ++ filter_map (own_field first) (enumerate_from (i + 1) (drop (i + 1) fields))
field_more first i fields field old new h e before added =
    let cut : drop i fields ≡ get_or fields i field ∷ drop (i + 1) fields = rw add-one (drop-cons fields i field h) in
    before
    ∙ ap (λ ms. old ++ filter_map (own_field first) (enumerate_from i ms)) cut
    ∙ ap (λ m. old ++ filter_map (own_field first) (enumerate_from i (m ∷ drop (i + 1) fields))) (sym e)
    ∙ one_field (own_field first (i, field)) old (filter_map (own_field first) (enumerate_from (i + 1) (drop (i + 1) fields)))
    ∙ ap (λ ns. ns ++ filter_map (own_field first) (enumerate_from (i + 1) (drop (i + 1) fields))) (sym added)

-- those that a class which is there declares
pub own_here : (p : Program) (c : ℕ) (f : ClassFile) → c < length p.classes → f ≡ get_or p.classes c f → own_fields p c ≡ own_fields_from (fields_before p.classes c) f.fields
own_here p c f h e =
    ap (λ o. option_map_or (λ (g : ClassFile). own_fields_from (fields_before p.classes c) g.fields) o []) (slice_get-get_or p.classes c f h ∙ ap Some (sym e))

-- the table of what each class declares says it
pub rows_are : (p : Program) (rows : List (List ℕ)) → rows ≡ tabulate (own_fields p) (length p.classes) → row_at rows ≡ own_fields p
rows_are p rows e = λ i c. at c i
  where
    at : (c : ℕ) → row_at rows c ≡ own_fields p c
    at c =
        ap (λ rs. row_at rs c) e
        ∙ row-tabulate (own_fields p) (length p.classes) (λ d h. class_at_none (λ (f : ClassFile). own_fields_from (fields_before p.classes d) f.fields) [] p d h) c

pub no_fields : (p : Program) (c : ℕ) → length p.classes ≤ c → instance_fields p c ≡ []
no_fields p c h = ap (λ cs. flat_map (own_fields p) (reverse cs)) (no_superclasses p c h)

-- the table of the fields of objects says them
pub fields_are : (p : Program) (rows : List (List ℕ)) (c : ℕ) → rows ≡ tabulate (instance_fields p) (length p.classes) → row_at rows c ≡ instance_fields p c
fields_are p rows c e = ap (λ rs. row_at rs c) e ∙ row-tabulate (instance_fields p) (length p.classes) (no_fields p) c
