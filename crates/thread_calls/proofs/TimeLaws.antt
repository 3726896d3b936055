-- The arithmetic of times and deadlines.
use Rattle.std.proofs.Common.{◌≡◌, ◌⊎◌, inl, inr, ◌<◌, ◌≤◌, ℕ, ◌+◌, ◌*◌, ◌-◌, ◌^◌, ◌%◌, pos, true, false, ap, sym, ◌∙◌, arith}
use Rattle.std.specs.Prelude.{min, nat_le, if◌then◌else◌}
use Rattle.std.specs.Int.{w64, cast_signed, int_wrap}
use Rattle.std.proofs.lemmas.Bool.Decides.{leb_tells}
use Rattle.ref_model.specs.Waiting.{deadline_after, latest, nanos_in_milli}

-- the bits of the time, as a long
pub nanos_are : (now : ℕ) → now < 2 ^ 64 → cast_signed w64 now ≡ int_wrap w64 (pos now)
unfolding int_wrap
nanos_are now fits = ap (cast_signed w64) (let e : now ≡ now % 2 ^ 64 = omega arith in e)

-- ---- a sum that stays at the greatest number of 64 bits

after_is : (now nanos sum : ℕ) → sum ≡ min (now + nanos) (2 ^ 64 - 1) → sum ≡ deadline_after now nanos
after_is now nanos sum is = by (leb_tells (now + nanos) latest)
  where
    by : ((nat_le (now + nanos) latest ≡ true) × (now + nanos ≤ latest)) ⊎ ((nat_le (now + nanos) latest ≡ false) × (latest < now + nanos)) → sum ≡ deadline_after now nanos
    by (inl below) =
        let same : sum ≡ now + nanos = omega arith in same ∙ sym (ap (λ b. if b then now + nanos else latest) below.0)
    by (inr above) =
        let same : sum ≡ latest = omega arith in same ∙ sym (ap (λ b. if b then now + nanos else latest) above.0)

-- so that of a product
pub millis_are : (now factor nanos sum : ℕ) → nanos ≡ min (factor * nanos_in_milli) (2 ^ 64 - 1) → sum ≡ min (now + nanos) (2 ^ 64 - 1) → sum ≡ deadline_after now (factor * nanos_in_milli)
millis_are now factor nanos sum product is =
    after_is now (factor * nanos_in_milli) sum (let big : ℕ = factor * nanos_in_milli in omega arith)
