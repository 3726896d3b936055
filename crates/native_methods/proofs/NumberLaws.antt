-- Numbers of objects as ints.
use Rattle.std.proofs.Common.{ℕ, ◌≡◌, ◌<◌, ◌^◌, ap, sym, pos}
use Rattle.std.specs.Int.{w32, cast_signed, int_wrap}
use Rattle.std.proofs.Math.Nat.{mod-eq_of_lt}

pub number_wraps : (n : ℕ) → n < 2 ^ 32 → cast_signed w32 n ≡ int_wrap w32 (pos n)
unfolding int_wrap
number_wraps n small = ap (cast_signed w32) (sym (mod-eq_of_lt small))
