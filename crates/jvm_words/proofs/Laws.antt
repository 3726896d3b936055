-- The results of the integers' methods are those of the definitions.
use Rattle.std.proofs.Common.{◌≡◌, ℕ, zero, suc, ◌-◌, ◌/◌, ◌%◌, ◌^◌, ◌<◌, ◌≤◌, w8, w16, w32, w64, ℤ, pos, negsuc, neg_ℤ, ◌*ℤ◌, FitsSigned, to_z, of_z, bit_and, false, cond, Some, None, refl, sym, ap, ◌∙◌, arith}
use Rattle.std.proofs.Math.Nat.{mod-eq_of_lt, div-le_self}
use Rattle.std.specs.Int.{Width, cast_signed, cast_unsigned, int_wrap, int_shl, int_wrapping_div}
use Rattle.std.specs.Prelude.{int_div, unsigned_abs}
use Rattle.std.proofs.lemmas.Int.{to_z-of_z, to_z_pos, int_wrap_fits, wrapping_mul-bits, int_wrap-mul_right}
use Rattle.std.proofs.lemmas.Nat.{pow_below, and_mask}
use Rattle.std.proofs.Math.Dec.{eqb-suc-zero}
use mir.Val.{bits, hbits}
use Rattle.jvm_words.specs.Words.{low_bits, is_zero}

-- ---- how far a shift goes

pub low_five : (b : ℤ) → FitsSigned w32 b → cast_unsigned w32 b % 32 ≡ low_bits 5 b
low_five (pos n) fits = refl
low_five (negsuc n) fits = let lt : n < 2 ^ 31 = fits.sfits in omega arith

pub low_six : (b : ℤ) → FitsSigned w32 b → cast_unsigned w32 b % 64 ≡ low_bits 6 b
low_six (pos n) fits = refl
low_six (negsuc n) fits = let lt : n < 2 ^ 31 = fits.sfits in omega arith

-- ---- a shift to the left is a product

bits_below : (w : Width) (a : ℤ) → 2 ^ hbits w < 2 ^ bits w → FitsSigned w a → cast_unsigned w a < 2 ^ bits w
bits_below w (pos n) half fits = let lt : n < 2 ^ hbits w = fits.sfits in omega arith
bits_below w (negsuc n) half fits = let lt : n < 2 ^ hbits w = fits.sfits in omega arith

shl_is : (w : Width) (a : ℤ) (k : ℕ) → 2 ^ hbits w < 2 ^ bits w → FitsSigned w a → k < bits w → int_shl w a k ≡ int_wrap w (a *ℤ pos (2 ^ k))
unfolding int_wrap
shl_is w a k half fits lt =
    let small : 2 ^ k < 2 ^ bits w = pow_below k (bits w) lt in
    let factor : cast_signed w (2 ^ k) ≡ int_wrap w (pos (2 ^ k)) = ap (cast_signed w) (sym (mod-eq_of_lt small)) in
    wrapping_mul-bits w (cast_unsigned w a) (2 ^ k) (bits_below w a half fits) small
    ∙ ap (λ (z : ℤ). int_wrap w (z *ℤ cast_signed w (2 ^ k))) (to_z-of_z w a fits)
    ∙ ap (λ (z : ℤ). int_wrap w (a *ℤ z)) factor
    ∙ int_wrap-mul_right w a (pos (2 ^ k))

pub int_shl_result : (a b : ℤ) (u : ℕ) (r : ℤ) → FitsSigned w32 a → FitsSigned w32 b → FitsSigned w32 r → u ≡ of_z w32 (to_z w32 (of_z w32 b)) → r ≡ int_shl w32 (to_z w32 (of_z w32 a)) (u % 32)
    → to_z w32 (of_z w32 r) ≡ int_wrap w32 (a *ℤ pos (2 ^ low_bits 5 b))
int_shl_result a b u r fa fb fr eu er =
    let count : u % 32 ≡ low_bits 5 b = ap (λ (n : ℕ). n % 32) (eu ∙ ap (of_z w32) (to_z-of_z w32 b fb)) ∙ low_five b fb in
    to_z-of_z w32 r fr ∙ er ∙ (λ i. int_shl w32 (to_z-of_z w32 a fa i) (count i)) ∙ shl_is w32 a (low_bits 5 b) (omega arith) fa (omega (arith, count))

pub long_shl_result : (a b : ℤ) (u : ℕ) (r : ℤ) → FitsSigned w64 a → FitsSigned w32 b → FitsSigned w64 r → u ≡ of_z w32 (to_z w32 (of_z w32 b)) → r ≡ int_shl w64 (to_z w64 (of_z w64 a)) (u % 64)
    → to_z w64 (of_z w64 r) ≡ int_wrap w64 (a *ℤ pos (2 ^ low_bits 6 b))
long_shl_result a b u r fa fb fr eu er =
    let count : u % 64 ≡ low_bits 6 b = ap (λ (n : ℕ). n % 64) (eu ∙ ap (of_z w32) (to_z-of_z w32 b fb)) ∙ low_six b fb in
    to_z-of_z w64 r fr ∙ er ∙ (λ i. int_shl w64 (to_z-of_z w64 a fa i) (count i)) ∙ shl_is w64 a (low_bits 6 b) (omega arith) fa (omega (arith, count))

-- ---- a quotient is wrapped

-- a number whose absolute value is at most that of the least one
positive_wraps : (w : Width) (n : ℕ) → n < 2 ^ bits w → cast_signed w (cast_unsigned w (pos n)) ≡ int_wrap w (pos n)
unfolding int_wrap
positive_wraps w n lt = ap (cast_signed w) (sym (mod-eq_of_lt lt))

negative_wraps : (w : Width) (n : ℕ) → 2 ^ hbits w < 2 ^ bits w → n ≤ 2 ^ hbits w → cast_signed w (cast_unsigned w (neg_ℤ (pos n))) ≡ int_wrap w (neg_ℤ (pos n))
negative_wraps w zero half le = positive_wraps w 0 (omega arith)
negative_wraps w (suc n) half le =
    let fits : FitsSigned w (negsuc n) = record { sfits = omega arith } in
    to_z-of_z w (negsuc n) fits ∙ sym (int_wrap_fits w (negsuc n) fits)

div_wraps : (w : Width) (a b : ℤ) → 2 ^ hbits w < 2 ^ bits w → FitsSigned w a → int_wrapping_div w a b ≡ int_wrap w (int_div a b)
div_wraps w (pos a) (pos b) half fits = let lt : a < 2 ^ hbits w = fits.sfits in positive_wraps w (a / b) (omega (arith, div-le_self a b))
div_wraps w (pos a) (negsuc b) half fits = let lt : a < 2 ^ hbits w = fits.sfits in negative_wraps w (a / suc b) half (omega (arith, div-le_self a (suc b)))
div_wraps w (negsuc a) (pos b) half fits = let lt : a < 2 ^ hbits w = fits.sfits in negative_wraps w (suc a / b) half (omega (arith, div-le_self (suc a) b))
div_wraps w (negsuc a) (negsuc b) half fits = let lt : a < 2 ^ hbits w = fits.sfits in positive_wraps w (suc a / suc b) (omega (arith, div-le_self (suc a) (suc b)))

not_zero : (w : Width) (b : ℤ) → (cast_unsigned w b ≡ 0 → ⊥) → is_zero b ≡ false
not_zero w (pos zero) some = absurd (some refl)
not_zero w (pos (suc n)) some = eqb-suc-zero n
not_zero w (negsuc n) some = eqb-suc-zero n

pub int_quotient : (a b r : ℤ) → FitsSigned w32 a → FitsSigned w32 b → FitsSigned w32 r → (cast_unsigned w32 b ≡ 0 → ⊥) → r ≡ int_wrapping_div w32 (to_z w32 (of_z w32 a)) (to_z w32 (of_z w32 b))
    → Some (to_z w32 (of_z w32 r)) ≡ cond (is_zero b) None (Some (int_wrap w32 (int_div a b)))
int_quotient a b r fa fb fr some e = rw (not_zero w32 b some) (ap Some (to_z-of_z w32 r fr ∙ e ∙ (λ i. int_wrapping_div w32 (to_z-of_z w32 a fa i) (to_z-of_z w32 b fb i)) ∙ div_wraps w32 a b (omega arith) fa))

pub long_quotient : (a b r : ℤ) → FitsSigned w64 a → FitsSigned w64 b → FitsSigned w64 r → (cast_unsigned w64 b ≡ 0 → ⊥) → r ≡ int_wrapping_div w64 (to_z w64 (of_z w64 a)) (to_z w64 (of_z w64 b))
    → Some (to_z w64 (of_z w64 r)) ≡ cond (is_zero b) None (Some (int_wrap w64 (int_div a b)))
long_quotient a b r fa fb fr some e = rw (not_zero w64 b some) (ap Some (to_z-of_z w64 r fr ∙ e ∙ (λ i. int_wrapping_div w64 (to_z-of_z w64 a fa i) (to_z-of_z w64 b fb i)) ∙ div_wraps w64 a b (omega arith) fa))

-- ---- the low bits with their sign

low_eight : (a : ℤ) → FitsSigned w32 a → cast_signed w8 (cast_unsigned w32 a % 256) ≡ int_wrap w8 a
unfolding int_wrap
low_eight (pos n) fits = refl
low_eight (negsuc n) fits = let lt : n < 2 ^ 31 = fits.sfits in ap (cast_signed w8) (let e : (2 ^ 32 - suc n) % 256 ≡ 256 - 1 - n % 256 = omega arith in e)

low_sixteen : (a : ℤ) → FitsSigned w32 a → cast_signed w16 (cast_unsigned w32 a % 65536) ≡ int_wrap w16 a
unfolding int_wrap
low_sixteen (pos n) fits = refl
low_sixteen (negsuc n) fits = let lt : n < 2 ^ 31 = fits.sfits in ap (cast_signed w16) (let e : (2 ^ 32 - suc n) % 65536 ≡ 65536 - 1 - n % 65536 = omega arith in e)

pub low_byte : (a s r : ℤ) → FitsSigned w32 a → FitsSigned w8 s → FitsSigned w32 r → s ≡ to_z w8 (unsigned_abs (to_z w32 (bit_and (of_z w32 a) 255))) → r ≡ to_z w8 (of_z w8 s) → to_z w32 (of_z w32 r) ≡ int_wrap w8 a
low_byte a s r fa fs fr es er =
    let low : bit_and (of_z w32 a) 255 ≡ of_z w32 a % 256 = and_mask (of_z w32 a) 8 in
    let small : to_z w32 (of_z w32 a % 256) ≡ pos (of_z w32 a % 256) = to_z_pos w32 (of_z w32 a % 256) (omega arith) in
    to_z-of_z w32 r fr ∙ er ∙ to_z-of_z w8 s fs ∙ es ∙ ap (λ (n : ℕ). to_z w8 (unsigned_abs (to_z w32 n))) low ∙ ap (λ (z : ℤ). to_z w8 (unsigned_abs z)) small ∙ low_eight a fa

pub low_short : (a s r : ℤ) → FitsSigned w32 a → FitsSigned w16 s → FitsSigned w32 r → s ≡ to_z w16 (unsigned_abs (to_z w32 (bit_and (of_z w32 a) 65535))) → r ≡ to_z w16 (of_z w16 s) → to_z w32 (of_z w32 r) ≡ int_wrap w16 a
low_short a s r fa fs fr es er =
    let low : bit_and (of_z w32 a) 65535 ≡ of_z w32 a % 65536 = and_mask (of_z w32 a) 16 in
    let small : to_z w32 (of_z w32 a % 65536) ≡ pos (of_z w32 a % 65536) = to_z_pos w32 (of_z w32 a % 65536) (omega arith) in
    to_z-of_z w32 r fr ∙ er ∙ to_z-of_z w16 s fs ∙ es ∙ ap (λ (n : ℕ). to_z w16 (unsigned_abs (to_z w32 n))) low ∙ ap (λ (z : ℤ). to_z w16 (unsigned_abs z)) small ∙ low_sixteen a fa
