-- Whether any of a list passes, from one on; and the place of a thread in a list.
use Rattle.std.proofs.Common.{◌≡◌, ◌+◌, ◌<◌, ◌≤◌, ◌==◌, ℕ, zero, suc, Bool, true, false, List, [], ◌∷◌, Option, None, Some, length, drop, slice_get, get_or, refl, ap, sym, subst, ◌∙◌, arith, cond, ◌||◌}
use Rattle.std.specs.List.{list_any}
use Rattle.std.proofs.lemmas.Bool.{eq-eqb, ne_eqb}
use Rattle.std.proofs.lemmas.Option.{get_or_from_slice_get, slice_get_within}
use Rattle.thread_lists.specs.Lists.{count, list_at, total}
use Rattle.thread_lists.proofs.CountLaws.{count-cons, count-here, count-same, count-there, total-le}

any_more : {A : Type 0} (f : A → Bool) (xs : List A) (i : ℕ) (d : A) → i < length xs → list_any f (drop i xs) ≡ (f (get_or xs i d) || list_any f (drop (i + 1) xs))
any_more f [] i d h = absurd (omega arith)
any_more f (x ∷ xs) zero d h = refl
any_more f (x ∷ xs) (suc i) d h =
    let same : suc (i + 1) ≡ suc i + 1 = omega arith in
    any_more f xs i d (omega arith) ∙ ap (λ n. f (get_or xs i d) || list_any f (drop n (x ∷ xs))) same

pub any_here : {A : Type 0} (f : A → Bool) (xs : List A) (i : ℕ) (d : A) → i < length xs → f (get_or xs i d) ≡ true → list_any f (drop i xs) ≡ true
any_here f xs i d h passes = any_more f xs i d h ∙ ap (λ b. b || list_any f (drop (i + 1) xs)) passes

pub any_behind : {A : Type 0} (f : A → Bool) (xs : List A) (i : ℕ) (d : A) → i < length xs → f (get_or xs i d) ≡ false → list_any f (drop i xs) ≡ list_any f (drop (i + 1) xs)
any_behind f xs i d h fails = any_more f xs i d h ∙ ap (λ b. b || list_any f (drop (i + 1) xs)) fails

-- the same of what lies at an index
pub any_found : {A : Type 0} (f : A → Bool) (xs : List A) (i : ℕ) (x : A) → slice_get xs i ≡ Some x → f x ≡ true → list_any f (drop i xs) ≡ true
any_found f xs i x at passes = any_here f xs i x (slice_get_within xs i x at) (ap f (get_or_from_slice_get xs i x x at) ∙ passes)

pub any_past : {A : Type 0} (f : A → Bool) (xs : List A) (i : ℕ) (x : A) → slice_get xs i ≡ Some x → f x ≡ false → list_any f (drop i xs) ≡ list_any f (drop (i + 1) xs)
any_past f xs i x at fails = any_behind f xs i x (slice_get_within xs i x at) (ap f (get_or_from_slice_get xs i x x at) ∙ fails)

pub any_end : {A : Type 0} (f : A → Bool) (xs : List A) (i : ℕ) → length xs ≤ i → list_any f (drop i xs) ≡ false
any_end f [] zero h = refl
any_end f [] (suc i) h = refl
any_end f (x ∷ xs) zero h = absurd (omega arith)
any_end f (x ∷ xs) (suc i) h = any_end f xs i (omega arith)

-- ---- the place of a thread

-- the index of a thread in a list that has it; of no thread, the list's length
abbrev pub place_of : Option ℕ → List ℕ → ℕ
place_of None xs = length xs
place_of (Some t) [] = 0
place_of (Some t) (x ∷ xs) = cond (x == t) 0 (suc (place_of (Some t) xs))

-- a list has each thread once where all lists together have
pub once_in : (lists : List (List ℕ)) (k : ℕ) → k < length lists → ((t : ℕ) → total (count t) lists ≤ 1) → (t : ℕ) → count t (list_at lists k) ≤ 1
once_in lists k inside once t = omega (arith, once t, total-le t lists k inside)

pub held_at : (xs : List ℕ) (i t : ℕ) → slice_get xs i ≡ Some t → 0 < count t xs
held_at [] i t e = absurd cc
held_at (x ∷ xs) zero t e = let same : x ≡ t = cc in subst (λ y. 0 < count y (x ∷ xs)) same (count-here x xs)
held_at (x ∷ xs) (suc i) t e = count-there t x xs (held_at xs i t e)

-- what lies at an index of a list that has each thread once has its place there
pub place_at : (xs : List ℕ) (i : ℕ) → ((t : ℕ) → count t xs ≤ 1) → i ≤ length xs → place_of (slice_get xs i) xs ≡ i
place_at [] zero once h = refl
place_at [] (suc i) once h = absurd (omega arith)
place_at (x ∷ xs) zero once h = ap (λ b. cond b 0 (suc (place_of (Some x) xs))) (eq-eqb x x refl)
place_at (x ∷ xs) (suc i) once h =
    by (slice_get xs i) refl (place_at xs i (λ t. omega (arith, once t, count-cons t x xs)) (omega arith))
  where
    by : (o : Option ℕ) → slice_get xs i ≡ o → place_of (slice_get xs i) xs ≡ i → place_of o (x ∷ xs) ≡ suc i
    by None e rest = ap suc (ap (λ o. place_of o xs) (sym e) ∙ rest)
    by (Some t) e rest =
        let once_more : 0 < count t xs = held_at xs i t e in
        let other : x ≡ t → ⊥ = λ same. omega (arith, once x, count-same x xs, subst (λ u. 0 < count u xs) (sym same) once_more) in
        ap (λ b. cond b 0 (suc (place_of (Some t) xs))) (ne_eqb x t other) ∙ ap suc (ap (λ o. place_of o xs) (sym e) ∙ rest)

-- and behind what lies at its place lies what comes next
pub place_behind : (xs : List ℕ) (here next : Option ℕ) (t : ℕ) → ((u : ℕ) → count u xs ≤ 1) → here ≡ slice_get xs (place_of here xs) → here ≡ Some t
    → next ≡ slice_get xs (place_of here xs + 1) → place_of next xs ≡ place_of here xs + 1
place_behind xs here next t once at is comes =
    let within : place_of here xs < length xs = slice_get_within xs (place_of here xs) t (sym at ∙ is) in
    ap (λ o. place_of o xs) comes ∙ place_at xs (place_of here xs + 1) once (omega arith)
