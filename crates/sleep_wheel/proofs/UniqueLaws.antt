-- Sleepers have one order.
use Rattle.std.proofs.Common.{◌≡◌, ℕ, suc, ◌+◌, ◌<◌, ◌≤◌, Bool, true, false, cond, ◌&&◌, List, [], ◌∷◌, get_or, map, refl, sym, ap, subst, ◌∙◌, ◌⊎◌, inl, inr, arith, ltb, eqb}
use Rattle.std.specs.Prelude.{sum_by}
use Rattle.std.specs.List.{AllByRecursion}
use Rattle.std.specs.List.Sorted.{IsSorted}
use Rattle.std.specs.Ordering.{ordering_then, is_lt, nat_cmp}
use Rattle.std.proofs.lemmas.Bool.{lt-ltb, le-ltb, cases_lt, cases_eq, eq-eqb}
use Rattle.std.proofs.lemmas.Bool.Decides.{eqb_tells}
use Rattle.std.proofs.lemmas.List.Sums.{sum_by-cons}
use Rattle.std.proofs.lemmas.List.Sorted.{sum_by-IsPermutation}
use Rattle.sleep_wheel.specs.declared.sleeper.Sleeper.{Sleeper}
use Rattle.sleep_wheel.specs.Sleepers.{sleeper_cmp, IsDueList}
use Rattle.sleep_wheel.proofs.OrderLaws.{not_below}
use Rattle.sleep_wheel.proofs.SlotLaws.{bool_cases}

-- a doesn't come after b
abbrev pub Le : Sleeper → Sleeper → Type 0
Le a b = (a.deadline < b.deadline) ⊎ ((a.deadline ≡ b.deadline) × (a.thread ≤ b.thread))

cmp_below : (m n : ℕ) → m < n → is_lt (nat_cmp m n) ≡ true
cmp_below m n lt = let t : ltb m n ≡ true = lt-ltb _ _ lt in rw t refl

then_equal : (m n j k : ℕ) → m ≡ n → is_lt (ordering_then (nat_cmp m n) (nat_cmp j k)) ≡ false → is_lt (nat_cmp j k) ≡ false
then_equal m n j k e h =
    let t : ltb m n ≡ false = le-ltb _ _ (omega arith) in
    let s : eqb m n ≡ true = eq-eqb _ _ e in
    rw (t, s) at h

then_below : (m n j k : ℕ) → m < n → is_lt (ordering_then (nat_cmp m n) (nat_cmp j k)) ≡ true
then_below m n j k lt = let t : ltb m n ≡ true = lt-ltb _ _ lt in rw t refl

not_less : (a b : Sleeper) → is_lt (sleeper_cmp b a) ≡ false → Le a b
not_less a b h =
    elim (cases_lt b.deadline a.deadline) [
      | inl lt ↦ let yes_less = then_below b.deadline a.deadline b.thread a.thread lt in absurd cc
      | inr le ↦ elim (cases_eq b.deadline a.deadline) [
        | inl e ↦ inr (sym e, not_below b.thread a.thread (then_equal b.deadline a.deadline b.thread a.thread e h))
        | inr differ ↦ inl (omega arith)
      ]
    ]

Le-trans : (a b c : Sleeper) → Le a b → Le b c → Le a c
Le-trans a b c (inl p) (inl q) = inl (omega arith)
Le-trans a b c (inl p) (inr q) = inl (omega arith)
Le-trans a b c (inr p) (inl q) = inl (omega arith)
Le-trans a b c (inr p) (inr q) = inr (omega arith, omega arith)

Le-antisym : (a b : Sleeper) → Le a b → Le b a → a ≡ b
Le-antisym a b (inl p) (inl q) = absurd (omega arith)
Le-antisym a b (inl p) (inr q) = absurd (omega arith)
Le-antisym a b (inr p) (inl q) = absurd (omega arith)
Le-antisym a b (inr p) (inr q) =
    let e : a.deadline ≡ b.deadline = p.0 in
    let f : a.thread ≡ b.thread = omega arith in
    λ i. record { deadline = e i; thread = f i }

sorted_tail : (x : Sleeper) (xs : List Sleeper) → IsSorted sleeper_cmp (x ∷ xs) → IsSorted sleeper_cmp xs
sorted_tail x xs sorted k d low high =
    let next : suc (k + 1) ≡ suc k + 1 = omega arith in
    ap (λ (n : ℕ). is_lt (sleeper_cmp (get_or (x ∷ xs) n d) (get_or xs k d))) next ∙ sorted (suc k) d (omega arith) (omega arith)

all_after : (x y : Sleeper) (xs : List Sleeper) → Le x y → AllByRecursion (Le y) xs → AllByRecursion (Le x) xs
all_after x y [] le all = tt
all_after x y (z ∷ xs) le all = (Le-trans x y z le all.0, all_after x y xs le all.1)

first_of_sorted : (x : Sleeper) (xs : List Sleeper) → IsSorted sleeper_cmp (x ∷ xs) → AllByRecursion (Le x) xs
first_of_sorted x [] sorted = tt
first_of_sorted x (y ∷ xs) sorted =
    let le : Le x y = not_less x y (sorted 0 x (omega arith) (omega arith)) in
    (le, all_after x y xs le (first_of_sorted y xs (sorted_tail x (y ∷ xs) sorted)))

-- how often a sleeper occurs
abbrev is_same : Sleeper → Sleeper → Bool
is_same s x = eqb x.deadline s.deadline && eqb x.thread s.thread

abbrev one_if : Sleeper → Sleeper → ℕ
one_if s x = cond (is_same s x) 1 0

same_is : (s x : Sleeper) → is_same s x ≡ true → x ≡ s
same_is s x h =
    elim (eqb_tells x.deadline s.deadline) [
      | inl (e, same) ↦ elim (eqb_tells x.thread s.thread) [
        | inl (f, equal) ↦ λ i. record { deadline = same i; thread = equal i }
        | inr (f, other) ↦ let no : is_same s x ≡ false = rw (e, f) refl in absurd cc
      ]
      | inr (e, other) ↦ let no : is_same s x ≡ false = rw e refl in absurd cc
    ]

same_self : (s : Sleeper) → one_if s s ≡ 1
same_self s =
    let e : eqb s.deadline s.deadline ≡ true = eq-eqb _ _ refl in
    let f : eqb s.thread s.thread ≡ true = eq-eqb _ _ refl in
    rw (e, f) refl

-- what holds of all holds of one that occurs
holds_of : (P : Sleeper → Type 0) (s : Sleeper) (xs : List Sleeper) → AllByRecursion P xs → 0 < sum_by (one_if s) xs → P s
holds_of P s [] all some = absurd (omega arith)
holds_of P s (x ∷ xs) all some =
    elim (bool_cases (is_same s x)) [
      | inl same ↦ subst P (same_is s x same) all.0
      | inr differ ↦
          let none : one_if s x ≡ 0 = rw differ refl in
          holds_of P s xs all.1 (omega (arith, some, sum_by-cons (one_if s) x xs, none))
    ]

-- two ordered lists of the same sleepers
pub one_order : (xs ys : List Sleeper) → IsSorted sleeper_cmp xs → IsSorted sleeper_cmp ys → ((f : Sleeper → ℕ) → sum_by f xs ≡ sum_by f ys) → xs ≡ ys
one_order [] [] p q same = refl
one_order [] (y ∷ ys) p q same = absurd (omega (arith, same (λ s. 1), sum_by-cons (λ (s : Sleeper). 1) y ys))
one_order (x ∷ xs) [] p q same = absurd (omega (arith, same (λ s. 1), sum_by-cons (λ (s : Sleeper). 1) x xs))
one_order (x ∷ xs) (y ∷ ys) p q same =
    let self : (z : Sleeper) → Le z z = λ z. inr (refl, omega arith) in
    let y_there : 0 < sum_by (one_if y) (x ∷ xs) = omega (arith, same (one_if y), sum_by-cons (one_if y) y ys, same_self y) in
    let x_there : 0 < sum_by (one_if x) (y ∷ ys) = omega (arith, same (one_if x), sum_by-cons (one_if x) x xs, same_self x) in
    let xy = holds_of (Le x) y (x ∷ xs) (self x, first_of_sorted x xs p) y_there in
    let yx = holds_of (Le y) x (y ∷ ys) (self y, first_of_sorted y ys q) x_there in
    let head : x ≡ y = Le-antisym x y xy yx in
    let tail = one_order xs ys (sorted_tail x xs p) (sorted_tail y ys q) (λ f. omega (arith, same f, sum_by-cons f x xs, sum_by-cons f y ys, ap f head)) in
    λ i. head i ∷ tail i

pub one_list : (now : ℕ) (sleepers : List Sleeper) (a b : List ℕ) → IsDueList now sleepers a → IsDueList now sleepers b → a ≡ b
one_list now sleepers a b p q =
    let same = one_order p.due q.due p.in_order q.in_order (λ f. sum_by-IsPermutation f _ p.due p.just_these ∙ sym (sum_by-IsPermutation f _ q.due q.just_these)) in
    p.threads_are ∙ ap (map (λ (s : Sleeper). s.thread)) same ∙ sym q.threads_are
