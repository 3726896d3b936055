-- The arithmetic of int and long (JVMS 2.11.3, 6.5) on the mathematical integers. `int_wrap w z` is the integer z
-- wrapped to an int (w32) or a long (w64): its low bits, read with their sign.
use Rattle.std.specs.Prelude.{ℕ, ◌/◌, ◌^◌, Bool, Option, Some, None, ℤ, pos, negsuc, ◌+ℤ◌, ◌-ℤ◌, ◌*ℤ◌, unsigned_abs, int_lt, int_div, int_rem, ◌==◌, if◌then◌else◌}
use Rattle.std.specs.Int.{w8, w16, w32, w64, cast_unsigned, cast_signed, int_wrap, int_rem_euclid, int_shr, int_bit_and, int_bit_or, int_bit_xor}
use Rattle.jvm_words.specs.declared.operation.IntOp.{IntOp}
use Rattle.jvm_words.specs.declared.operation.IntOp.TheVariants as ints
use Rattle.jvm_words.specs.declared.operation.LongOp.{LongOp}
use Rattle.jvm_words.specs.declared.operation.LongOp.TheVariants as longs
use Rattle.jvm_words.specs.declared.operation.ShiftOp.{ShiftOp}
use Rattle.jvm_words.specs.declared.operation.ShiftOp.TheVariants as shifts
use Rattle.jvm_words.specs.declared.operation.Narrow.{Narrow}
use Rattle.jvm_words.specs.declared.operation.Narrow.TheVariants as narrows

-- the low k bits of an integer, read without a sign
abbrev pub low_bits : ℕ → ℤ → ℕ
low_bits k z = unsigned_abs (int_rem_euclid z (pos (2 ^ k)))

abbrev pub is_zero : ℤ → Bool
is_zero z = unsigned_abs z == 0

-- iadd, isub, imul, idiv, irem, ishl, ishr, iushr, iand, ior, ixor; None where the divisor is 0. A quotient is rounded
-- toward zero, and a remainder has the dividend's sign. `ishr` rounds down. `iushr` shifts in zeros from the left.
abbrev pub int_result : IntOp → ℤ → ℤ → Option ℤ
int_result ints.Add a b = Some (int_wrap w32 (a +ℤ b))
int_result ints.Sub a b = Some (int_wrap w32 (a -ℤ b))
int_result ints.Mul a b = Some (int_wrap w32 (a *ℤ b))
int_result ints.Div a b = if is_zero b then None else Some (int_wrap w32 (int_div a b))
int_result ints.Rem a b = if is_zero b then None else Some (int_rem a b)
int_result ints.Shl a b = Some (int_wrap w32 (a *ℤ pos (2 ^ low_bits 5 b)))
int_result ints.Shr a b = Some (int_shr a (low_bits 5 b))
int_result ints.Ushr a b = Some (cast_signed w32 (cast_unsigned w32 a / 2 ^ low_bits 5 b))
int_result ints.And a b = Some (int_bit_and w32 a b)
int_result ints.Or a b = Some (int_bit_or w32 a b)
int_result ints.Xor a b = Some (int_bit_xor w32 a b)

-- ladd, lsub, lmul, ldiv, lrem, land, lor, lxor; None where the divisor is 0
abbrev pub long_result : LongOp → ℤ → ℤ → Option ℤ
long_result longs.Add a b = Some (int_wrap w64 (a +ℤ b))
long_result longs.Sub a b = Some (int_wrap w64 (a -ℤ b))
long_result longs.Mul a b = Some (int_wrap w64 (a *ℤ b))
long_result longs.Div a b = if is_zero b then None else Some (int_wrap w64 (int_div a b))
long_result longs.Rem a b = if is_zero b then None else Some (int_rem a b)
long_result longs.And a b = Some (int_bit_and w64 a b)
long_result longs.Or a b = Some (int_bit_or w64 a b)
long_result longs.Xor a b = Some (int_bit_xor w64 a b)

-- lshl, lshr, lushr
abbrev pub long_shift_result : ShiftOp → ℤ → ℤ → ℤ
long_shift_result shifts.Shl a count = int_wrap w64 (a *ℤ pos (2 ^ low_bits 6 count))
long_shift_result shifts.Shr a count = int_shr a (low_bits 6 count)
long_shift_result shifts.Ushr a count = cast_signed w64 (cast_unsigned w64 a / 2 ^ low_bits 6 count)

-- lcmp
abbrev pub long_order : ℤ → ℤ → ℤ
long_order a b = if int_lt a b then negsuc 0 else if int_lt b a then pos 1 else pos 0

-- an int narrowed to the type (JVMS 2.11.1; i2b, i2c, i2s, putfield, bastore, castore, sastore, ireturn)
abbrev pub narrow_result : Narrow → ℤ → ℤ
narrow_result narrows.Bool a = pos (low_bits 1 a)
narrow_result narrows.Byte a = int_wrap w8 a
narrow_result narrows.Char a = pos (low_bits 16 a)
narrow_result narrows.Short a = int_wrap w16 a
