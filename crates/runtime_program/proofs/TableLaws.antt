-- Look-ups in the tables of a program that is ready to run.
use Rattle.std.proofs.Common.{◌≡◌, ℕ, zero, suc, ◌+◌, ◌<◌, ◌≤◌, List, [], ◌∷◌, ◌++◌, length, map, take, get_or, false, Option, None, unwrap_or, refl, sym, ap, ◌∙◌, ⊎_elim, arith}
use Rattle.std.specs.Prelude.{filter, flat_map, reverse, slice_get}
use Rattle.std.specs.Option.{option_and_then}
use Rattle.std.proofs.lemmas.Bool.{cases_lt}
use Rattle.std.proofs.lemmas.List.{map-append}
use Rattle.std.proofs.lemmas.Grind.{common_steps}
use Rattle.std.proofs.lemmas.Option.{slice_get_past}
use Rattle.items.specs.Options.{◌>>=◌}
use Rattle.link_resolution.specs.Tables.{row_at, tabulate}
use Rattle.link_resolution.proofs.TableLaws.{get_tabulate, past_tabulate, row-tabulate}
use Rattle.link_resolution.proofs.HierarchyLaws.{no_superclasses}
use Rattle.link_model.specs.World.{World}
use Rattle.ref_model.specs.Members.{own_fields, is_static_field, field_place, field_zero, native_at, new_values, static_place}
use Rattle.invocation.specs.Places.{is_open}

-- the entry of a table, where the function gives none past the end
entry-tabulate : {A : Type 0} (f : ℕ → Option A) (n : ℕ) → ((c : ℕ) → n ≤ c → f c ≡ None) → (c : ℕ)
    → option_and_then (λ o. o) (slice_get (tabulate f n) c) ≡ f c
entry-tabulate f n none c =
    ⊎_elim (λ (h : c < n). ap (option_and_then (λ o. o)) (get_tabulate f n c h))
    (λ (h : n ≤ c). ap (option_and_then (λ o. o)) (past_tabulate f n c h) ∙ sym (none c h)) (cases_lt c n)

-- the same of a function that gives some value past the end
entry_or-tabulate : {A : Type 0} (f : ℕ → A) (n : ℕ) (past : A) → ((c : ℕ) → n ≤ c → f c ≡ past) → (c : ℕ)
    → unwrap_or (slice_get (tabulate f n) c) past ≡ f c
entry_or-tabulate f n past none c =
    ⊎_elim (λ (h : c < n). ap (λ o. unwrap_or o past) (get_tabulate f n c h))
    (λ (h : n ≤ c). ap (λ o. unwrap_or o past) (past_tabulate f n c h) ∙ sym (none c h)) (cases_lt c n)

-- ---- methods

no_native : (w : World) (n : ℕ) → length w.methods ≤ n → native_at w n ≡ None
no_native w n h = rw (slice_get_past w.methods n h) refl

pub natives_are : (w : World) (n : ℕ) → option_and_then (λ o. o) (slice_get (tabulate (native_at w) (length w.methods)) n) ≡ native_at w n
natives_are w n = entry-tabulate (native_at w) (length w.methods) (no_native w) n

not_open : (w : World) (n : ℕ) → length w.methods ≤ n → is_open w n ≡ false
not_open w n h = rw (slice_get_past w.methods n h) refl

pub open_are : (w : World) (n : ℕ) → unwrap_or (slice_get (tabulate (is_open w) (length w.methods)) n) false ≡ is_open w n
open_are w n = entry_or-tabulate (is_open w) (length w.methods) false (not_open w) n

-- ---- classes

no_values : (w : World) (c : ℕ) → length w.program.classes ≤ c → new_values w c ≡ []
no_values w c h = ap (λ cs. map (field_zero w) (flat_map (own_fields w) (reverse cs))) (no_superclasses w.program c h)

pub values_are : (w : World) (c : ℕ) → row_at (tabulate (new_values w) (length w.program.classes)) c ≡ new_values w c
values_are w c = row-tabulate (new_values w) (length w.program.classes) (no_values w) c

-- ---- instance fields

no_field : (w : World) (n : ℕ) → length w.fields ≤ n → field_place w n ≡ None
no_field w n h = rw (slice_get_past w.fields n h) refl

pub instance_places_are : (w : World) (n : ℕ)
    → option_and_then (λ o. o) (slice_get (tabulate (field_place w) (length w.fields)) n) ≡ field_place w n
instance_places_are w n = entry-tabulate (field_place w) (length w.fields) (no_field w) n

-- ---- static fields

take_past : {A : Type 0} (xs : List A) (n : ℕ) → length xs ≤ n → take n xs ≡ take (length xs) xs
take_past xs n h = grind (arith, common_steps)

pub counts_are : (w : World) (n : ℕ)
    → unwrap_or (slice_get (tabulate (static_place w) (length w.fields)) n) (static_place w (length w.fields)) ≡ static_place w n
counts_are w n =
    let all = static_place w (length w.fields) in
    ⊎_elim (λ (h : n < length w.fields). ap (λ o. unwrap_or o all) (get_tabulate (static_place w) (length w.fields) n h))
    (λ (h : length w.fields ≤ n). ap (λ o. unwrap_or o all) (past_tabulate (static_place w) (length w.fields) n h)
    ∙ past n h) (cases_lt n (length w.fields))
  where
    past : (n : ℕ) → length w.fields ≤ n → static_place w (length w.fields) ≡ static_place w n
    past n h = ap (λ fs. length (filter is_static_field fs)) (sym (take_past w.fields n h))

-- ---- arrays

pub mapped_entry : {A B : Type 0} (f : A → Option B) (xs : List A) (i : ℕ)
    → option_and_then (λ o. o) (slice_get (map f xs) i) ≡ (slice_get xs i >>= f)
mapped_entry f [] i = refl
mapped_entry f (x ∷ xs) zero = refl
mapped_entry f (x ∷ xs) (suc i) = mapped_entry f xs i

-- one more value of a function on the items of a list
pub mapped_more : {A B : Type 0} (f : A → B) (xs : List A) (i : ℕ) (d : A) (old new : List B) → i < length xs → old ≡ map f (take i xs)
    → new ≡ old ++ f (get_or xs i d) ∷ [] → new ≡ map f (take (i + 1) xs)
mapped_more f xs i d old new inside before step =
    let x = get_or xs i d in
    let t : take (i + 1) xs ≡ take i xs ++ x ∷ [] = grind (arith, common_steps) in
    step ∙ ap (λ ys. ys ++ f x ∷ []) before ∙ sym (map-append f (take i xs) (x ∷ [])) ∙ ap (map f) (sym t)
