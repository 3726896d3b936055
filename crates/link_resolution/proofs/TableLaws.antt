-- Look-ups in tables.
use Rattle.std.proofs.Common.{◌≡◌, ℕ, zero, suc, ◌+◌, ◌<◌, ◌≤◌, List, [], ◌∷◌, ◌++◌, length, get_or, Option, Some, None, unwrap_or, refl, sym, ap, subst, ◌∙◌, ⊎_elim, arith, length-append, add-one}
use Rattle.std.specs.Prelude.{slice_get}
use Rattle.std.specs.Option.{option_and_then}
use Rattle.std.proofs.lemmas.Option.{slice_get_past, slice_get-get_or}
use Rattle.std.proofs.Math.ListN.{get_or-append}
use Rattle.std.proofs.Math.Seq.{get_or-append_seam}
use Rattle.std.proofs.lemmas.Bool.{cases_eq, cases_lt}
use Rattle.link_resolution.specs.Tables.{tabulate, row_at, parent_at}

pub length-tabulate : {A : Type 0} (f : ℕ → A) (n : ℕ) → length (tabulate f n) ≡ n
length-tabulate f zero = refl
length-tabulate f (suc n) = let e : length (tabulate f n) ≡ n = length-tabulate f n in simp length-append (omega arith)

-- one value more
pub tabulate_more : {A : Type 0} (f : ℕ → A) (n : ℕ) → tabulate f (n + 1) ≡ tabulate f n ++ f n ∷ []
tabulate_more f n = rw add-one refl

get_or-tabulate : {A : Type 0} (f : ℕ → A) (n i : ℕ) (d : A) → i < n → get_or (tabulate f n) i d ≡ f i
get_or-tabulate f zero i d h = absurd (omega arith)
get_or-tabulate {A = A} f (suc n) i d h =
    ⊎_elim
    (λ (e : i ≡ n). ap (λ k. get_or (tabulate f n ++ f n ∷ []) k d) (e ∙ sym (length-tabulate f n)) ∙ get_or-append_seam (tabulate f n) (f n) [] d ∙ ap f (sym e))
    (λ (ne : i ≡ n → ⊥). let small : i < n = omega arith in let inside : i < length (tabulate f n) = subst (λ k. i < k) (sym (length-tabulate f n)) small in get_or-append (tabulate f n) (f n ∷ []) d i inside ∙ get_or-tabulate f n i d small)
    (cases_eq i n)

pub get_tabulate : {A : Type 0} (f : ℕ → A) (n i : ℕ) → i < n → slice_get (tabulate f n) i ≡ Some (f i)
get_tabulate f n i h = slice_get-get_or (tabulate f n) i (f i) (subst (λ k. i < k) (sym (length-tabulate f n)) h) ∙ ap Some (get_or-tabulate f n i (f i) h)

pub past_tabulate : {A : Type 0} (f : ℕ → A) (n i : ℕ) → n ≤ i → slice_get (tabulate f n) i ≡ None
past_tabulate f n i h = slice_get_past (tabulate f n) i (subst (λ k. k ≤ i) (sym (length-tabulate f n)) h)

-- the row of a table of lists, where the function gives no items past the end of the table
pub row-tabulate : {A : Type 0} (f : ℕ → List A) (n : ℕ) → ((c : ℕ) → n ≤ c → f c ≡ []) → (c : ℕ) → row_at (tabulate f n) c ≡ f c
row-tabulate f n none c =
    ⊎_elim (λ (h : c < n). ap (λ o. unwrap_or o []) (get_tabulate f n c h)) (λ (h : n ≤ c). ap (λ o. unwrap_or o []) (past_tabulate f n c h) ∙ sym (none c h)) (cases_lt c n)

pub parent-tabulate : (f : ℕ → Option ℕ) (n : ℕ) → ((c : ℕ) → n ≤ c → f c ≡ None) → (c : ℕ) → parent_at (tabulate f n) c ≡ f c
parent-tabulate f n none c =
    ⊎_elim (λ (h : c < n). ap (option_and_then (λ o. o)) (get_tabulate f n c h)) (λ (h : n ≤ c). ap (option_and_then (λ o. o)) (past_tabulate f n c h) ∙ sym (none c h)) (cases_lt c n)
