-- Where a list is cut in two by a test that holds of what is in front.
use Rattle.std.proofs.Common.{◌≡◌, ℕ, zero, suc, ◌+◌, ◌≤◌, true, false, Bool, cond, List, [], ◌∷◌, length, refl, ap, sym, ◌∙◌, arith}
use Rattle.std.specs.List.{prefix_len}
use Rattle.std.specs.List.Sorted.{IsPartitionPoint}

pub one_more : (n : ℕ) → suc n ≡ 1 + n
one_more n = omega arith

-- the place of a partition is the number of those in front
pub partition_is : {A : Type 0} (p : A → Bool) (xs : List A) (n : ℕ) → n ≤ length xs → IsPartitionPoint (λ x. p x ≡ true) (λ x. p x ≡ false) xs n → n ≡ prefix_len p xs
partition_is p [] zero low h = refl
partition_is p [] (suc n) low h = absurd (omega arith)
partition_is p (x ∷ xs) zero low h =
    let first : p x ≡ false = h.1 0 x (omega arith) (omega arith) in
    ap (λ b. cond b (1 + prefix_len p xs) 0) (sym first)
partition_is p (x ∷ xs) (suc n) low h =
    let first : p x ≡ true = h.0 0 x (omega arith) (omega arith) in
    let rest = partition_is p xs n (omega arith) (λ k d from below. h.0 (suc k) d (omega arith) (omega arith), λ k d from below. h.1 (suc k) d (omega arith) (omega arith)) in
    ap suc rest ∙ one_more (prefix_len p xs) ∙ ap (λ b. cond b (1 + prefix_len p xs) 0) (sym first)
