-- The first item of a list that passes a test.
use Rattle.std.proofs.Common.{◌≡◌, ℕ, suc, ◌+◌, Bool, true, false, cond, List, [], ◌∷◌, ◌++◌, length, Option, Some, None, refl, sym, ap, ◌∙◌, arith, nat_lt, nat_eq, not, ◌≤◌, length-append}
use Rattle.std.specs.Option.{option_map, option_or}
use Rattle.std.specs.List.{position, position_or_len, prefix_len}
use Rattle.std.proofs.lemmas.List.Folds.{position_or_len_push}
use Rattle.std.proofs.lemmas.List.Sums.{prefix_len-le-length}
use Rattle.std.proofs.lemmas.Bool.Decides.{nat_tests}

-- with one item more at the end
pub position_push : {X : Type 0} (p : X → Bool) (xs : List X) (y : X) → position p (xs ++ y ∷ []) ≡ option_or (position p xs) (cond (p y) (Some (length xs)) None)
position_push p xs y =
    let n : ℕ = position_or_len p xs in
    let m : ℕ = position_or_len p (xs ++ y ∷ []) in
    let small : n ≤ length xs = prefix_len-le-length (λ x. not (p x)) xs in
    let e : m ≡ cond (nat_eq n (length xs)) (length xs + cond (p y) 0 1) n = position_or_len_push p xs y in
    let l : length (xs ++ y ∷ []) ≡ length xs + 1 = simp length-append in
    by_numbers n m (length xs) (length (xs ++ y ∷ [])) (p y) small e l
  where
    by_numbers : (n m k l : ℕ) (b : Bool) → n ≤ k → m ≡ cond (nat_eq n k) (k + cond b 0 1) n → l ≡ k + 1
        → cond (nat_lt m l) (Some m) None ≡ option_or (cond (nat_lt n k) (Some n) None) (cond b (Some k) None)
    by_numbers n m k l true small e same = grind (arith, nat_tests)
    by_numbers n m k l false small e same = grind (arith, nat_tests)

-- with one item more in front
shifted : (t : Bool) (n m : ℕ) → m ≡ suc n → cond t (Some m) None ≡ option_map suc (cond t (Some n) None)
shifted true n m e = ap Some e
shifted false n m e = refl

by_test : (b : Bool) (n k l : ℕ) → l ≡ k + 1
    → cond (nat_lt (cond (not b) (1 + n) 0) l) (Some (cond (not b) (1 + n) 0)) None ≡ cond b (Some 0) (option_map suc (cond (nat_lt n k) (Some n) None))
by_test true n k l e = grind (arith, nat_tests)
by_test false n k l e =
    let same : nat_lt (1 + n) l ≡ nat_lt n k = grind (arith, nat_tests) in
    ap (λ t. cond t (Some (1 + n)) None) same ∙ shifted (nat_lt n k) n (1 + n) (omega arith)

pub position_cons : {X : Type 0} (p : X → Bool) (x : X) (xs : List X) → position p (x ∷ xs) ≡ cond (p x) (Some 0) (option_map suc (position p xs))
position_cons p x xs = by_test (p x) (prefix_len (λ y. not (p y)) xs) (length xs) (length (x ∷ xs)) (omega arith)

-- in one list and then in another
none_before : (o : Option ℕ) → o ≡ option_map (λ n. 0 + n) o
none_before None = refl
none_before (Some n) = ap Some (omega arith)

one_before : (b : Bool) (first second : Option ℕ) (k : ℕ)
    → cond b (Some 0) (option_map suc (option_or first (option_map (λ n. k + n) second)))
    ≡ option_or (cond b (Some 0) (option_map suc first)) (option_map (λ n. suc k + n) second)
one_before true first second k = refl
one_before false (Some n) second k = refl
one_before false None None k = refl
one_before false None (Some n) k = ap Some (omega arith)

pub position_append : {X : Type 0} (p : X → Bool) (xs ys : List X)
    → position p (xs ++ ys) ≡ option_or (position p xs) (option_map (λ n. length xs + n) (position p ys))
position_append p [] ys = none_before (position p ys)
position_append p (x ∷ xs) ys =
    position_cons p x (xs ++ ys)
    ∙ ap (λ o. cond (p x) (Some 0) (option_map suc o)) (position_append p xs ys)
    ∙ one_before (p x) (position p xs) (position p ys) (length xs)
    ∙ ap (λ o. option_or o (option_map (λ n. suc (length xs) + n) (position p ys))) (sym (position_cons p x xs))
