-- The order of sleepers and of alarms.
use Rattle.std.proofs.Common.{◌≡◌, ℕ, zero, suc, ◌≤◌, true, false, List, [], ◌∷◌, refl, arith, inl, inr, ltb}
use Rattle.std.specs.Prelude.{Contains}
use Rattle.std.specs.List.{AllByRecursion}
use Rattle.std.specs.Ordering.{ordering_then, is_lt, nat_cmp}
use Rattle.std.specs.declared.cmp.Ordering.{Ordering}
use Rattle.std.specs.declared.cmp.Ordering.TheVariants.{Less, Equal, Greater}
use Rattle.std.specs.declared.cmp.Reverse.{Reverse}
use Rattle.std.specs.BinaryHeap.{IsUpperBound}
use Rattle.std.proofs.lemmas.Bool.{lt-ltb, cases_lt}
use Rattle.sleep_wheel.specs.declared.sleeper.Sleeper.{Sleeper}
use Rattle.sleep_wheel.specs.declared.alarms.Alarm.{Alarm}
use Rattle.sleep_wheel.specs.Sleepers.{sleeper_cmp}
use Rattle.sleep_wheel.specs.Alarms.{alarm_of, alarm_cmp}

-- what the first of two orders rules out
not_less_first : (a b : Ordering) → is_lt (ordering_then a b) ≡ false → is_lt a ≡ false
not_less_first Less b h = h
not_less_first Equal b h = refl
not_less_first Greater b h = refl

pub not_below : (m n : ℕ) → is_lt (nat_cmp m n) ≡ false → n ≤ m
not_below m n h =
    elim (cases_lt m n) [
      | inl lt ↦
          let t : ltb m n ≡ true = lt-ltb _ _ lt in
          let less : is_lt (nat_cmp m n) ≡ true = rw t refl in
          absurd cc
      | inr le ↦ le
    ]

-- a sleeper that isn't before another has no earlier deadline
pub deadline_le : (u s : Sleeper) → is_lt (sleeper_cmp u s) ≡ false → s.deadline ≤ u.deadline
deadline_le u s h = not_below u.deadline s.deadline (not_less_first _ _ h)

pub all_at : {X : Type 0} (P : X → Type 0) (xs : List X) → AllByRecursion P xs → (x : X) → Contains xs x → P x
all_at P [] all x (k, lt, is) = absurd (omega arith)
all_at P (y ∷ ys) all x (zero, lt, is) = subst-here P y x is all.0
  where
    subst-here : {X : Type 0} (P : X → Type 0) (y x : X) → y ≡ x → P y → P x
    subst-here P y x e h = rw (← e) h
all_at P (y ∷ ys) all x (suc k, lt, is) = all_at P ys all.1 x (k, omega arith, is)

-- what is on top wakes first
pub first_of_all : (top : Reverse Alarm) (alarms : List (Reverse Alarm)) → IsUpperBound alarm_cmp top alarms → (u : Sleeper) (key : ℕ) → Contains alarms (alarm_of u key)
    → is_lt (sleeper_cmp u top.0.sleeper) ≡ false
first_of_all top alarms bound u key held = not_less_first _ _ (all_at _ alarms bound (alarm_of u key) held)
