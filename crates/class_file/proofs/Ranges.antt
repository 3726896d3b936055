-- Tests that join two tests, and tests of a range.
use Rattle.std.proofs.Common.{◌≡◌, ℕ, ◌≤◌, Bool, true, false, leb, refl}
use Rattle.std.specs.Prelude.{◌&&◌}
use Rattle.std.specs.Int.{is_in_range}
use Rattle.std.proofs.lemmas.Bool.{leb-true, le-leb}

pub and_true : (a b : Bool) → (a && b) ≡ true → (a ≡ true) × (b ≡ true)
and_true true b e = (refl, e)
and_true false b e = absurd cc

pub true_and : (a b : Bool) → a ≡ true → b ≡ true → (a && b) ≡ true
true_and a b e f = rw (e, f) refl

pub in_range : (lo hi n : ℕ) → is_in_range lo hi n ≡ true → (lo ≤ n) × (n ≤ hi)
in_range lo hi n e = let p = and_true (leb lo n) (leb n hi) e in (leb-true lo n p.0, leb-true n hi p.1)

pub range_in : (lo hi n : ℕ) → lo ≤ n → n ≤ hi → is_in_range lo hi n ≡ true
range_in lo hi n a b = true_and (leb lo n) (leb n hi) (le-leb lo n a) (le-leb n hi b)
