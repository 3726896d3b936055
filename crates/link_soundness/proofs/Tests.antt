-- What tests into Bool say.
use Rattle.std.proofs.Common.{◌≡◌, ◌⊎◌, inl, inr, ℕ, ◌<◌, Bool, true, false, refl, arith}
use Rattle.std.specs.Prelude.{nat_lt, ◌||◌}
use Rattle.std.specs.Bool.{beq}

pub beq_true : (a b : Bool) → beq a b ≡ true → a ≡ b
beq_true true true e = refl
beq_true true false e = absurd cc
beq_true false true e = absurd cc
beq_true false false e = refl

pub lower : (k n : ℕ) → k < n → nat_lt k n ≡ true
lower k n h = search (arith)

pub or_true : (a b : Bool) → (a || b) ≡ true → (a ≡ true) ⊎ (b ≡ true)
or_true true b e = inl refl
or_true false b e = inr e
