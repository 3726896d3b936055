-- The heap of alarms through each change.
use Rattle.std.proofs.Common.{◌≡◌, ℕ, ◌<◌, ◌≤◌, false, List, [], ◌∷◌, length, get_or, Option, Some, None, refl, sym, ap, subst, ◌∙◌, inl, inr, arith, leb, eqb}
use Rattle.std.specs.Prelude.{slice_set, IsPermutation, IfSome, IfNone}
use Rattle.std.specs.declared.cmp.Reverse.{Reverse}
use Rattle.std.specs.BinaryHeap.{IsHeap, IsUpperBound, PopsGreatest}
use Rattle.std.proofs.lemmas.List.Sorted.{Contains-permutation, length_permutation}
use Rattle.std.proofs.lemmas.Bool.{eqb-true, eqb-false}
use Rattle.std.proofs.lemmas.Bool.Decides.{nat_tests}
use Rattle.slab.proofs.SlabLemmas.{Contains-cons, Contains-cons_cases}
use Rattle.slab.specs.Slab.{Slab, Updates}
use Rattle.sleep_wheel.specs.declared.sleeper.Sleeper.{Sleeper}
use Rattle.sleep_wheel.specs.declared.alarms.Alarm.{Alarm}
use Rattle.sleep_wheel.specs.Sleepers.{Sleepers, slot_at, IsEarliest, TakesFirst, NoneDue}
use Rattle.sleep_wheel.specs.Alarms.{alarm_of, alarm_cmp, IsLive, Covers}
use Rattle.sleep_wheel.proofs.OrderLaws.{first_of_all, deadline_le}
use Rattle.sleep_wheel.proofs.SlotLaws.{slot_kept, bool_cases}

-- a stale alarm leaves the heap
pub covers_pop : (slots : List (Option Sleeper)) (alarms rest : List (Reverse Alarm)) (x : Reverse Alarm) → Covers slots alarms → (IsLive slots x.0 → ⊥) → IsPermutation alarms (x ∷ rest)
    → IsHeap alarm_cmp rest → Covers slots rest
covers_pop slots alarms rest x c stale moved heap = record {
  heap = heap;
  held = λ key s here. elim (Contains-cons_cases x (alarm_of s key) rest (Contains-permutation alarms (x ∷ rest) (alarm_of s key) moved (c.held key s here))) [
    | inl e ↦ absurd (stale (subst (λ (y : Reverse Alarm). IsLive slots y.0) (sym e) here))
    | inr r ↦ r
  ];
}

-- a sleeper is removed
pub covers_cleared : (slots : List (Option Sleeper)) (alarms : List (Reverse Alarm)) (key : ℕ) → Covers slots alarms → Covers (slice_set slots key None) alarms
covers_cleared slots alarms key c = record { heap = c.heap; held = λ other s here. c.held other s (slot_kept slots key other s here) }

-- a sleeper is added
pub covers_added : (old new : Slab Sleeper) (key : ℕ) (s : Sleeper) (alarms more : List (Reverse Alarm)) → Covers old.slots alarms → Updates old new key (Some s)
    → IsPermutation (alarm_of s key ∷ alarms) more → IsHeap alarm_cmp more → Covers new.slots more
covers_added old new key s alarms more c updates moved heap = record {
  heap = heap;
  held = λ other u here. Contains-permutation (alarm_of s key ∷ alarms) more (alarm_of u other) moved (elim (bool_cases (eqb other key)) [
    | inl same ↦
        let k : other ≡ key = eqb-true _ _ same in
        let both : Some u ≡ Some s = sym here ∙ ap (λ (n : ℕ). slot_at new.slots n) k ∙ updates.changed in
        let one : s ≡ u = cc in
        (0, omega arith, λ i. alarm_of (one i) (sym k i))
    | inr differ ↦
        Contains-cons (alarm_of s key) (alarm_of u other) alarms (c.held other u (sym (updates.others other (eqb-false _ _ differ)) ∙ here))
  ]);
}

-- no alarms, no sleepers
pub none_held : (slots : List (Option Sleeper)) (alarms : List (Reverse Alarm)) → Covers slots alarms → length alarms ≡ 0 → (key : ℕ) (slot : Option Sleeper) → slot_at slots key ≡ slot → slot ≡ None
none_held slots alarms c none key None e = refl
none_held slots alarms c none key (Some s) e = let at = c.held key s e in absurd (omega (arith, at.1))

pub none_due_of_none : (now : ℕ) (slots : List (Option Sleeper)) (alarms : List (Reverse Alarm)) → Covers slots alarms → length alarms ≡ 0 → NoneDue now slots
none_due_of_none now slots alarms c none = record { none = λ key s e. let gone = none_held slots alarms c none key (slot_at slots key) refl in absurd cc }

-- the one on top isn't due, so none is
pub none_due : (now : ℕ) (slots : List (Option Sleeper)) (alarms : List (Reverse Alarm)) (top : Reverse Alarm) → Covers slots alarms → IsUpperBound alarm_cmp top alarms
    → now < top.0.sleeper.deadline → NoneDue now slots
none_due now slots alarms top c bound later = record {
  none = λ key s e.
      let after = deadline_le s top.0.sleeper (first_of_all top alarms bound s key (c.held key s e)) in
      let no : leb s.deadline now ≡ false = grind (arith, nat_tests, after) in
      no;
}

pub takes_first : (now : ℕ) (slots : List (Option Sleeper)) (alarms : List (Reverse Alarm)) (top : Reverse Alarm) → Covers slots alarms → IsUpperBound alarm_cmp top alarms
    → IsLive slots top.0 → top.0.sleeper.deadline ≤ now → TakesFirst now slots (slice_set slots top.0.key None) top.0.sleeper
takes_first now slots alarms top c bound live due = record {
  key = top.0.key;
  here = live;
  is_due = grind (arith, nat_tests, due);
  first = λ other u e. first_of_all top alarms bound u other (c.held other u e);
  after = refl;
}

-- a stale alarm is popped from the top
pub covers_popped : (slots : List (Option Sleeper)) (alarms rest : List (Reverse Alarm)) (r : Option (Reverse Alarm)) (top : Reverse Alarm) → Covers slots alarms
    → top ≡ get_or alarms 0 top → (IsLive slots top.0 → ⊥) → IfSome r (λ x. x ≡ get_or alarms 0 x) → IfSome r (λ x. IsPermutation alarms (x ∷ rest))
    → IfSome r (λ x. PopsGreatest alarm_cmp alarms x rest) → IfNone r (rest ≡ alarms) → Covers slots rest
covers_popped slots alarms rest None top c is_top stale at moved heap same = subst (Covers slots) (sym same) c
covers_popped slots [] rest (Some x) top c is_top stale at moved heap same = absurd (omega (arith, length_permutation [] (x ∷ rest) moved))
covers_popped slots (y ∷ alarms) rest (Some x) top c is_top stale at moved heap same =
    let one : top ≡ x = is_top ∙ sym at in
    covers_pop slots (y ∷ alarms) rest x c (λ live. stale (subst (λ (z : Reverse Alarm). IsLive slots z.0) (sym one) live)) moved (heap c.heap).0

-- the sleeper on top is the first to wake
pub earliest_is : (w : Sleepers) (alarms : List (Reverse Alarm)) (top : Reverse Alarm) → Covers w.slots alarms → IsUpperBound alarm_cmp top alarms → IsLive w.slots top.0
    → IsEarliest w top.0.sleeper.deadline
earliest_is w alarms top c bound live = record {
  key = top.0.key;
  sleeper = top.0.sleeper;
  here = live;
  deadline_is = refl;
  least = λ other s e. deadline_le s top.0.sleeper (first_of_all top alarms bound s other (c.held other s e));
}
