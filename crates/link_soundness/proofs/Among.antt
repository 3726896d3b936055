-- What is in a list of classes.
use Rattle.std.proofs.Common.{◌≡◌, ◌⊎◌, inl, inr, ℕ, zero, suc, ◌<◌, Bool, true, false, cond, List, [], ◌∷◌, ◌++◌, length, refl, ap, sym, subst, ◌∙◌, arith}
use Rattle.std.specs.Prelude.{◌==◌, ◌||◌, if◌then◌else◌}
use Rattle.std.proofs.lemmas.Bool.{eqb-true, or_left, or_right}
use Rattle.std.proofs.lemmas.Bool.Decides.{nat_tests}
use Rattle.link_rules.specs.Hierarchy.{is_among}
use Rattle.link_soundness.proofs.Tests.{or_true}

-- ---- tests

regrouped : (a b c : Bool) → (a || (b || c)) ≡ ((a || b) || c)
regrouped true b c = refl
regrouped false b c = refl

or_none : (a : Bool) → (a || false) ≡ a
or_none true = refl
or_none false = refl

same_number : (n : ℕ) → (n == n) ≡ true
same_number n = search (arith)

-- ---- two lists, one after the other

among_join : (xs ys : List ℕ) (c : ℕ) → is_among (xs ++ ys) c ≡ (is_among xs c || is_among ys c)
among_join [] ys c = refl
among_join (x ∷ xs) ys c = ap (λ b. x == c || b) (among_join xs ys c) ∙ regrouped (x == c) (is_among xs c) (is_among ys c)

pub among_left : (xs ys : List ℕ) (c : ℕ) → is_among xs c ≡ true → is_among (xs ++ ys) c ≡ true
among_left xs ys c e = among_join xs ys c ∙ or_left (is_among xs c) (is_among ys c) e

pub among_right : (xs ys : List ℕ) (c : ℕ) → is_among ys c ≡ true → is_among (xs ++ ys) c ≡ true
among_right xs ys c e = among_join xs ys c ∙ or_right (is_among xs c) (is_among ys c) e

pub among_either : (xs ys : List ℕ) (c : ℕ) → is_among (xs ++ ys) c ≡ true → (is_among xs c ≡ true) ⊎ (is_among ys c ≡ true)
among_either xs ys c e = or_true (is_among xs c) (is_among ys c) (sym (among_join xs ys c) ∙ e)

-- ---- one class in front

pub among_itself : (c : ℕ) → is_among (c ∷ []) c ≡ true
among_itself c = or_left (c == c) false (same_number c)

pub among_one : (c d : ℕ) → is_among (c ∷ []) d ≡ true → c ≡ d
among_one c d e = by (or_true (c == d) false e)
  where
    by : ((c == d) ≡ true) ⊎ (false ≡ true) → c ≡ d
    by (inl same) = eqb-true c d same
    by (inr e) = absurd cc

pub among_front : (c : ℕ) (cs : List ℕ) (d : ℕ) → is_among (c ∷ cs) d ≡ true → (c ≡ d) ⊎ (is_among cs d ≡ true)
among_front c cs d e = by (or_true (c == d) (is_among cs d) e)
  where
    by : ((c == d) ≡ true) ⊎ (is_among cs d ≡ true) → (c ≡ d) ⊎ (is_among cs d ≡ true)
    by (inl same) = inl (eqb-true c d same)
    by (inr behind) = inr behind

-- another class at the end changes nothing
pub other_among : (cs : List ℕ) (c d : ℕ) → (c == d) ≡ false → is_among (cs ++ c ∷ []) d ≡ is_among cs d
other_among cs c d e = among_join cs (c ∷ []) d ∙ ap (λ b. is_among cs d || (b || false)) e ∙ or_none (is_among cs d)

-- ---- a list without one of its classes

abbrev pub without : ℕ → List ℕ → List ℕ
without c [] = []
without c (x ∷ xs) = if x == c then xs else x ∷ without c xs

pub one_less : (c : ℕ) (xs : List ℕ) → is_among xs c ≡ true → suc (length (without c xs)) ≡ length xs
one_less c [] e = absurd cc
one_less c (x ∷ xs) e = by (x == c) e (λ behind. one_less c xs behind)
  where
    by : (b : Bool) → (b || is_among xs c) ≡ true → (is_among xs c ≡ true → suc (length (without c xs)) ≡ length xs)
        → suc (length (cond b xs (x ∷ without c xs))) ≡ suc (length xs)
    by true e more = refl
    by false e more = ap suc (more e)

pub others_stay : (c d : ℕ) (xs : List ℕ) → (c == d) ≡ false → is_among xs d ≡ true → is_among (without c xs) d ≡ true
others_stay c d [] other e = absurd cc
others_stay c d (x ∷ xs) other e = by (x == c) refl (or_true (x == d) (is_among xs d) e) (λ behind. others_stay c d xs other behind)
  where
    by : (b : Bool) → (x == c) ≡ b → ((x == d) ≡ true) ⊎ (is_among xs d ≡ true) → (is_among xs d ≡ true → is_among (without c xs) d ≡ true)
        → is_among (cond b xs (x ∷ without c xs)) d ≡ true
    by true is (inl same) more = let here : (c == d) ≡ true = subst (λ y. (y == d) ≡ true) (eqb-true x c is) same in absurd cc
    by true is (inr behind) more = behind
    by false is (inl same) more = or_left (x == d) (is_among (without c xs) d) same
    by false is (inr behind) more = or_right (x == d) (is_among (without c xs) d) (more behind)

-- ---- the numbers below one

abbrev pub numbers_below : ℕ → List ℕ
numbers_below zero = []
numbers_below (suc n) = n ∷ numbers_below n

pub as_many : (n : ℕ) → length (numbers_below n) ≡ n
as_many zero = refl
as_many (suc n) = ap suc (as_many n)

pub below_among : (n d : ℕ) → d < n → is_among (numbers_below n) d ≡ true
below_among zero d low = absurd (omega arith)
below_among (suc n) d low = by (n == d) refl (λ less. below_among n d less)
  where
    less : (n == d) ≡ false → d < n
    less e = grind (arith, nat_tests)

    by : (b : Bool) → (n == d) ≡ b → (d < n → is_among (numbers_below n) d ≡ true) → (b || is_among (numbers_below n) d) ≡ true
    by true is more = refl
    by false is more = more (less is)
