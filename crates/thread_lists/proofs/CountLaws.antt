-- How often a thread occurs in lists.
use Rattle.std.proofs.Common.{◌≡◌, ◌+◌, ◌<◌, ◌≤◌, ◌==◌, ℕ, suc, List, [], ◌∷◌, ◌++◌, length, sym, ◌∙◌, ap, subst, refl, zero-add, add-zero, drop, slice_get, Some, arith, cond, eqb, inl, inr, true, false, not, set}
use Rattle.std.proofs.lemmas.Bool.{cases_eq, cases_lt, eq-eqb}
use Rattle.std.proofs.lemmas.List.{get_or-set_other}
use Rattle.std.proofs.Math.ListN.{length-set}
use Rattle.std.proofs.lemmas.List.Elements.{filter-append}
use Rattle.std.specs.List.{AllByRecursion, IsDistinct, list_any}
use Rattle.std.proofs.lemmas.Map.Steps.{length-le_from_distinct_below}
use Rattle.std.proofs.lemmas.Bool.Decides.{eqb_tells, nat_tests}
use Rattle.std.proofs.lemmas.List.Sums.{sum_by-cons, sum_by-append, sum_by-set, get_or-le-sum_by}
use Rattle.thread_lists.specs.Lists.{append, count, total, list_at, push, without}

pub count-cons : (t x : ℕ) (xs : List ℕ) → count t (x ∷ xs) ≡ cond (x == t) 1 0 + count t xs
count-cons t x xs = sum_by-cons (λ y. cond (y == t) 1 0) x xs

pub count-append : (t : ℕ) (xs ys : List ℕ) → count t (xs ++ ys) ≡ count t xs + count t ys
count-append t xs ys = sum_by-append (λ y. cond (y == t) 1 0) xs ys

pub count-same : (t : ℕ) (xs : List ℕ) → count t (t ∷ xs) ≡ 1 + count t xs
count-same t xs = count-cons t t xs ∙ ap (λ b. cond b 1 0 + count t xs) (eq-eqb t t refl)

pub count-here : (t : ℕ) (xs : List ℕ) → 0 < count t (t ∷ xs)
count-here t xs = omega (arith, count-same t xs)

pub count-there : (t x : ℕ) (xs : List ℕ) → 0 < count t xs → 0 < count t (x ∷ xs)
count-there t x xs h = omega (arith, count-cons t x xs)

pub never : (t : ℕ) (xs : List ℕ) → count t xs ≡ 0 → 0 < count t xs → ⊥
never t xs e h = omega arith

-- no thread is in both parts of a list that has it at most once
pub apart : (x y : ℕ) (us vs : List ℕ) → ((z : ℕ) → count z (us ++ vs) ≤ 1) → 0 < count x us → 0 < count y vs → x ≡ y → ⊥
apart x y us vs once h k e = omega (arith, once x, count-append x us vs, subst (λ z. 0 < count z vs) (sym e) k)

-- a list is what comes before one of its threads, the thread, and what comes after it
pub record Split (t : ℕ) (xs : List ℕ) : Type 0 where
  pub before : List ℕ
  pub after : List ℕ
  pub is : xs ≡ before ++ t ∷ after

pub split : (t : ℕ) (xs : List ℕ) → 0 < count t xs → Split t xs
split t [] h = absurd (omega arith)
split t (x ∷ xs) h =
    elim (cases_eq x t) [
      | inl e ↦ record { before = []; after = xs; is = ap (λ y. y ∷ xs) e }
      | inr n ↦
          let s = split t xs (grind (arith, nat_tests, count-cons t x xs)) in
          record { before = x ∷ s.before; after = s.after; is = ap (λ ys. x ∷ ys) s.is }
    ]

pub without-none : (t : ℕ) (xs : List ℕ) → count t xs ≡ 0 → without t xs ≡ xs
without-none t [] h = refl
without-none t (x ∷ xs) h =
    elim (eqb_tells x t) [
      | inl w ↦ absurd (never t (x ∷ xs) h (subst (λ y. 0 < count y (x ∷ xs)) w.1 (count-here x xs)))
      | inr w ↦ ap (λ b. cond (not b) (x ∷ without t xs) (without t xs)) w.0 ∙ ap (λ ys. x ∷ ys) (without-none t xs (omega (arith, count-cons t x xs)))
    ]

pub without-split : (t : ℕ) (us vs : List ℕ) → count t us ≡ 0 → count t vs ≡ 0 → without t (us ++ t ∷ vs) ≡ us ++ vs
without-split t us vs h k =
    filter-append (λ x. not (x == t)) us (t ∷ vs)
    ∙ ap (λ xs. xs ++ without t (t ∷ vs)) (without-none t us h)
    ∙ ap (λ xs. us ++ xs) (ap (λ b. cond (not b) (t ∷ without t vs) (without t vs)) (eq-eqb t t refl) ∙ without-none t vs k)

-- one of several lists
pub total-set : (f : List ℕ → ℕ) (lists : List (List ℕ)) (k : ℕ) (xs : List ℕ) → k < length lists → total f (set lists k xs) + f (list_at lists k) ≡ total f lists + f xs
total-set f lists k xs h = sum_by-set f lists k xs [] h

pub total-le : (t : ℕ) (lists : List (List ℕ)) (k : ℕ) → k < length lists → count t (list_at lists k) ≤ total (count t) lists
total-le t lists k h = get_or-le-sum_by (count t) lists k [] h

pub total-two : (t : ℕ) (lists : List (List ℕ)) (j k : ℕ) → j < length lists → k < length lists → (j ≡ k → ⊥) → count t (list_at lists j) + count t (list_at lists k) ≤ total (count t) lists
total-two t lists j k hj hk ne =
    let other : list_at (set lists k []) j ≡ list_at lists j = get_or-set_other lists k j [] [] ne in
    let le : count t (list_at (set lists k []) j) ≤ total (count t) (set lists k []) = total-le t (set lists k []) j (simp length-set hj) in
    omega (arith, total-set (count t) lists k [] hk, subst (λ xs. count t xs ≤ total (count t) (set lists k [])) other le)

-- a list has no more threads than there are, where each occurs at most once
pub list_any-count : (q : ℕ) (xs : List ℕ) → list_any (eqb q) xs ≡ true → 0 < count q xs
list_any-count q [] h = cc
list_any-count q (x ∷ xs) h =
    elim (cases_eq q x) [
      | inl e ↦ subst (λ y. 0 < count q (y ∷ xs)) e (count-here q xs)
      | inr n ↦ count-there q x xs (list_any-count q xs (grind (arith, nat_tests)))
    ]

differs : (x : ℕ) (xs : List ℕ) → count x xs ≡ 0 → AllByRecursion (λ y. eqb x y ≡ false) xs
differs x [] h = tt
differs x (y ∷ ys) h =
    elim (eqb_tells x y) [
      | inl w ↦ absurd (never x (y ∷ ys) h (subst (λ z. 0 < count z (y ∷ ys)) (sym w.1) (count-here y ys)))
      | inr w ↦ (w.0, differs x ys (omega (arith, count-cons x y ys)))
    ]

distinct : (xs : List ℕ) → ((t : ℕ) → count t xs ≤ 1) → IsDistinct eqb xs
unfolding IsDistinct
distinct [] once = tt
distinct (x ∷ xs) once =
    (differs x xs (omega (arith, once x, count-same x xs)), distinct xs (λ t. omega (arith, once t, count-cons t x xs)))

pub length-le : (xs : List ℕ) (n : ℕ) → ((t : ℕ) → count t xs ≤ 1) → ((t : ℕ) → n ≤ t → count t xs ≡ 0) → length xs ≤ n
length-le xs n once within =
    length-le_from_distinct_below xs n (distinct xs once) (λ q h. elim (cases_lt q n) [ inl l ↦ l | inr g ↦ absurd (never q xs (within q g) (list_any-count q xs h)) ])

pub count-other : (t x : ℕ) (xs : List ℕ) → (x ≡ t → ⊥) → count t (x ∷ xs) ≡ count t xs
count-other t x xs ne =
    elim (eqb_tells x t) [ inl w ↦ absurd (ne w.1) | inr w ↦ count-cons t x xs ∙ ap (λ b. cond b 1 0 + count t xs) w.0 ∙ zero-add (count t xs) ]

pub total-push : (t : ℕ) (lists : List (List ℕ)) (k : ℕ) (ts : List ℕ) → k < length lists → total (count t) (push lists k ts) ≡ total (count t) lists + count t ts
total-push t lists k ts h =
    omega (arith, total-set (count t) lists k (list_at lists k ++ ts) h, count-append t (list_at lists k) ts)

-- a thread that leaves a list where it is once
pub count-closed : (x t : ℕ) (us vs : List ℕ) → (x ≡ t → ⊥) → count x (us ++ t ∷ vs) ≡ count x (us ++ vs)
count-closed x t us vs ne = count-append x us (t ∷ vs) ∙ ap (λ n. count x us + n) (count-other x t vs (λ e. ne (sym e))) ∙ sym (count-append x us vs)

-- a thread that occurs is in one of the lists
pub found : (t : ℕ) (lists : List (List ℕ)) → 0 < total (count t) lists → (k : ℕ) × (k < length lists) × (0 < count t (list_at lists k))
found t [] h = absurd (omega arith)
found t (xs ∷ lists) h =
    elim (cases_lt 0 (count t xs)) [
      | inl here ↦ (0, omega arith, here)
      | inr none ↦
          let w = found t lists (omega (arith, sum_by-cons (count t) xs lists, none)) in
          (suc w.0, omega (arith, w.1), w.2)
    ]

pub total-one_more : (t : ℕ) (lists : List (List ℕ)) → total (count t) (lists ++ [] ∷ []) ≡ total (count t) lists
total-one_more t lists = sum_by-append (count t) lists ([] ∷ []) ∙ add-zero (total (count t) lists)

-- a list that is moved after another leaves each thread in as many lists
pub total-append : (t : ℕ) (lists : List (List ℕ)) (from to : ℕ) → from < length lists → to < length lists → (from ≡ to → ⊥) → total (count t) (append lists from to) ≡ total (count t) lists
total-append t lists from to hf ht ne =
    let pushed = push lists to (list_at lists from) in
    let other : list_at pushed from ≡ list_at lists from = get_or-set_other lists to from _ [] ne in
    omega (arith, total-set (count t) pushed from [] (simp length-set hf), ap (count t) other, total-push t lists to (list_at lists from) ht)

-- the first of a list
pub first-held : (xs : List ℕ) (t : ℕ) → slice_get xs 0 ≡ Some t → 0 < count t xs
first-held [] t e = cc
first-held (x ∷ xs) t e = let i : x ≡ t = cc in subst (λ y. 0 < count y (x ∷ xs)) i (count-here x xs)

pub without-first : (xs : List ℕ) (t : ℕ) → slice_get xs 0 ≡ Some t → count t xs ≤ 1 → without t xs ≡ drop 1 xs
without-first [] t e once = refl
without-first (x ∷ xs) t e once =
    let i : t ≡ x = cc in
    ap (λ y. without y (x ∷ xs)) i
    ∙ without-split x [] xs refl (omega (arith, count-same x xs, subst (λ y. count y (x ∷ xs) ≤ 1) i once))

pub count-without : (t : ℕ) (xs : List ℕ) → count t (without t xs) ≡ 0
count-without t [] = refl
count-without t (x ∷ xs) =
    elim (eqb_tells x t) [
      | inl w ↦ ap (λ b. count t (cond (not b) (x ∷ without t xs) (without t xs))) w.0 ∙ count-without t xs
      | inr w ↦ ap (λ b. count t (cond (not b) (x ∷ without t xs) (without t xs))) w.0 ∙ count-other t x (without t xs) w.1 ∙ count-without t xs
    ]

-- a thread that left its list is in none
pub total-without : (t : ℕ) (lists : List (List ℕ)) (k : ℕ) → k < length lists → total (count t) lists ≤ 1 → 0 < count t (list_at lists k) → total (count t) (set lists k (without t (list_at lists k))) ≡ 0
total-without t lists k h once held =
    omega (arith, total-set (count t) lists k (without t (list_at lists k)) h, total-le t lists k h, count-without t (list_at lists k))

pub is_below : (t n : ℕ) (lists : List (List ℕ)) (k : ℕ) → k < length lists → (n ≤ t → total (count t) lists ≡ 0) → 0 < count t (list_at lists k) → t < n
is_below t n lists k h within held =
    elim (cases_lt t n) [ inl l ↦ l | inr g ↦ absurd (omega (arith, within g, total-le t lists k h)) ]
