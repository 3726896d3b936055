-- The low half of a long.
use Rattle.std.proofs.Common.{◌≡◌, suc, ◌-◌, ◌%◌, ◌^◌, ◌<◌, ℤ, pos, negsuc, FitsSigned, refl, ap, arith}
use Rattle.std.specs.Int.{w32, w64, cast_signed, cast_unsigned, int_wrap}

pub low_word : (a : ℤ) → FitsSigned w64 a → cast_signed w32 (cast_unsigned w64 a % 4294967296) ≡ int_wrap w32 a
unfolding int_wrap
low_word (pos n) fits = refl
low_word (negsuc n) fits = let lt : n < 2 ^ 63 = fits.sfits in ap (cast_signed w32) (let e : (2 ^ 64 - suc n) % 4294967296 ≡ 4294967296 - 1 - n % 4294967296 = omega arith in e)
