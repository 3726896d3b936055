-- A heap made anew from the sleepers.
use Rattle.std.proofs.Common.{◌≡◌, ℕ, List, [], ◌∷◌, length, Some, refl, sym, ap, subst, ◌⊎◌, inl, inr, arith}
use Rattle.std.specs.Prelude.{IsPermutation, Contains}
use Rattle.std.specs.declared.cmp.Reverse.{Reverse}
use Rattle.std.specs.BinaryHeap.{IsHeap, KeepsHeap}
use Rattle.std.proofs.lemmas.List.Sorted.{Contains-permutation, IsPermutation-sym}
use Rattle.slab.specs.Slab.{Slab, entries}
use Rattle.slab.proofs.SlabLemmas.{Contains-cons, Contains-cons_cases, Contains-entries}
use Rattle.sleep_wheel.specs.declared.sleeper.Sleeper.{Sleeper}
use Rattle.sleep_wheel.specs.declared.alarms.Alarm.{Alarm}
use Rattle.sleep_wheel.specs.Sleepers.{slot_at}
use Rattle.sleep_wheel.specs.Alarms.{alarm_of, alarm_cmp, IsLive, Covers, IsOnTop}

-- the alarms are those of sleepers, and each sleeper has its alarm or is left
pub record Rebuilds (slab : Slab Sleeper) (alarms : List (Reverse Alarm)) (left : List (ℕ × Sleeper)) : Type 0 where
  pub heap : IsHeap alarm_cmp alarms
  pub live : (x : Reverse Alarm) → Contains alarms x → IsLive slab.slots x.0
  pub held : (key : ℕ) (s : Sleeper) → slot_at slab.slots key ≡ Some s → Contains alarms (alarm_of s key) ⊎ Contains left (key, s)
  pub sleepers : (key : ℕ) (s : Sleeper) → Contains left (key, s) → slot_at slab.slots key ≡ Some s

pub rebuild_begins : (slab : Slab Sleeper) (alarms : List (Reverse Alarm)) (left : List (ℕ × Sleeper)) → IsHeap alarm_cmp alarms → alarms ≡ [] → left ≡ entries slab → Rebuilds slab alarms left
rebuild_begins slab alarms left heap none is = record {
  heap = heap;
  live = λ x has. absurd (omega (arith, has.1, ap length none));
  held = λ key s e. inr (subst (λ (xs : List (ℕ × Sleeper)). Contains xs (key, s)) (sym is) ((Contains-entries slab key s).1 e));
  sleepers = λ key s has. (Contains-entries slab key s).0 (subst (λ (xs : List (ℕ × Sleeper)). Contains xs (key, s)) is has);
}

pub rebuild_more : (slab : Slab Sleeper) (alarms more : List (Reverse Alarm)) (left rest : List (ℕ × Sleeper)) (key : ℕ) (s : Sleeper) → Rebuilds slab alarms left → left ≡ (key, s) ∷ rest
    → IsPermutation (alarm_of s key ∷ alarms) more → KeepsHeap alarm_cmp alarms more → Rebuilds slab more rest
rebuild_more slab alarms more left rest key s r is added heap =
    let here : slot_at slab.slots key ≡ Some s = r.sleepers key s (subst (λ (xs : List (ℕ × Sleeper)). Contains xs (key, s)) (sym is) (0, omega arith, refl)) in
    record {
      heap = heap r.heap;
      live = λ x has. elim (Contains-cons_cases (alarm_of s key) x alarms (Contains-permutation more (alarm_of s key ∷ alarms) x (IsPermutation-sym _ _ added) has)) [
        | inl e ↦ subst (λ (y : Reverse Alarm). IsLive slab.slots y.0) e here
        | inr before ↦ r.live x before
      ];
      held = λ other u e. elim (r.held other u e) [
        | inl before ↦ inl (Contains-permutation (alarm_of s key ∷ alarms) more (alarm_of u other) added (Contains-cons (alarm_of s key) (alarm_of u other) alarms before))
        | inr waits ↦ elim (Contains-cons_cases (key, s) (other, u) rest (subst (λ (xs : List (ℕ × Sleeper)). Contains xs (other, u)) is waits)) [
          | inl same ↦ inl (Contains-permutation (alarm_of s key ∷ alarms) more (alarm_of u other) added (0, omega arith, ap (λ (p : ℕ × Sleeper). alarm_of p.1 p.0) same))
          | inr behind ↦ inr behind
        ]
      ];
      sleepers = λ other u has. r.sleepers other u (subst (λ (xs : List (ℕ × Sleeper)). Contains xs (other, u)) (sym is) (Contains-cons (key, s) (other, u) rest has));
    }

pub rebuild_covers : (slab : Slab Sleeper) (alarms : List (Reverse Alarm)) (left : List (ℕ × Sleeper)) → Rebuilds slab alarms left → length left ≡ 0 → Covers slab.slots alarms
rebuild_covers slab alarms left r none = record {
  heap = r.heap;
  held = λ key s e. elim (r.held key s e) [
    | inl has ↦ has
    | inr waits ↦ absurd (omega (arith, waits.1, none))
  ];
}

pub rebuild_on_top : (slab : Slab Sleeper) (alarms : List (Reverse Alarm)) (left : List (ℕ × Sleeper)) → Rebuilds slab alarms left → IsOnTop slab.slots alarms
rebuild_on_top slab alarms left r = record { live = λ x some is. r.live x (0, some, sym is) }
