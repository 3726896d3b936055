-- Where groups begin, one after the other.
use Rattle.std.proofs.Common.{◌≡◌, ℕ, zero, suc, ◌+◌, ◌<◌, ◌≤◌, List, [], ◌∷◌, length, take, get_or, refl, ap, arith}
use Rattle.std.specs.List.{sum}
use Rattle.std.proofs.lemmas.List.Sums.{sum_by-cons}
use Rattle.link_numbers.specs.Starts.{starts_of}

pub length-starts : (start : ℕ) (sizes : List ℕ) → length (starts_of start sizes) ≡ length sizes
length-starts start [] = refl
length-starts start (size ∷ sizes) = ap suc (length-starts (start + size) sizes)

one_more : (size : ℕ) (sizes : List ℕ) → sum (size ∷ sizes) ≡ size + sum sizes
one_more size sizes = sum_by-cons (λ n. n) size sizes

pub get_or-starts : (start : ℕ) (sizes : List ℕ) (i d : ℕ) → i < length sizes → get_or (starts_of start sizes) i d ≡ start + sum (take i sizes)
get_or-starts start [] i d less = omega arith
get_or-starts start (size ∷ sizes) zero d less = omega arith
get_or-starts start (size ∷ sizes) (suc i) d less =
    let behind = get_or-starts (start + size) sizes i d (omega arith) in
    omega (arith, behind, one_more size (take i sizes))

-- a group ends before the end of all
pub ends_inside : (sizes : List ℕ) (i : ℕ) → sum (take i sizes) + get_or sizes i 0 ≤ sum sizes
ends_inside [] zero = omega arith
ends_inside [] (suc i) = omega arith
ends_inside (size ∷ sizes) zero = omega (arith, one_more size sizes)
ends_inside (size ∷ sizes) (suc i) = omega (arith, ends_inside sizes i, one_more size sizes, one_more size (take i sizes))
