-- Notes, also of a history that grows.
use Rattle.std.proofs.Common.{◌≤◌, ◌+◌, ◌⊎◌, ℕ, zero, suc, List, [], ◌∷◌, ◌++◌, map, refl, sym, subst, ◌∙◌, inl, inr, ⊎_elim, arith}
use Rattle.std.specs.List.{range_with_len}
use Rattle.history.specs.declared.entry.Entry.{Entry}
use Rattle.turn_lock.specs.declared.view.Note.{Note}
use Rattle.turn_lock.specs.Views.{note, HasNote, AreApart, AreRight, own_note, other_notes}
use Rattle.turn_lock.proofs.EntryLaws.{AllBy, others_made, longer}

-- notes on other numbers stay right
pub right_later : (seats c : ℕ) (log new : List Entry) (ns : List Note) → ¬ HasNote c ns → AllBy c new → AreRight seats log ns → AreRight seats (log ++ new) ns
right_later seats c log new [] apart own right = tt
right_later seats c log new (n ∷ ns) apart own right = (
  record {
    below = right.0.below;
    begins = longer n.seen log new right.0.begins;
    exact = others_made n.number c log new (λ same. apart (inl same)) own ∙ right.0.exact;
  },
  right_later seats c log new ns (λ has. apart (inr has)) own right.1,
)

pub right_append : (seats : ℕ) (log : List Entry) (ms ns : List Note) → AreRight seats log ms → AreRight seats log ns → AreRight seats log (ms ++ ns)
right_append seats log [] ns left right = right
right_append seats log (m ∷ ms) ns left right = (left.0, right_append seats log ms ns left.1 right)

pub has_append : (k : ℕ) (ms ns : List Note) → HasNote k (ms ++ ns) → HasNote k ms ⊎ HasNote k ns
has_append k [] ns has = inr has
has_append k (m ∷ ms) ns (inl same) = inl (inl same)
has_append k (m ∷ ms) ns (inr has) = ⊎_elim (λ h. inl (inr h)) (λ h. inr h) (has_append k ms ns has)

pub apart_append : (ms ns : List Note) → AreApart ms → AreApart ns → ((k : ℕ) → HasNote k ms → ¬ HasNote k ns) → AreApart (ms ++ ns)
apart_append [] ns left right between = right
apart_append (m ∷ ms) ns left right between = (
  λ has. ⊎_elim left.0 (between m.number (inl refl)) (has_append m.number ms ns has),
  apart_append ms ns left.1 right (λ k has. between k (inr has)),
)

-- ---- one note and the others

pub own_right : (seats : ℕ) (log : List Entry) (ns : List Note) → AreRight seats log ns → AreRight seats log (own_note ns)
own_right seats log [] right = tt
own_right seats log (n ∷ ns) right = (right.0, tt)

pub others_right : (seats : ℕ) (log : List Entry) (ns : List Note) → AreRight seats log ns → AreRight seats log (other_notes ns)
others_right seats log [] right = tt
others_right seats log (n ∷ ns) right = right.1

pub own_apart : (ns : List Note) → AreApart (own_note ns)
own_apart [] = tt
own_apart (n ∷ ns) = ((λ has. has), tt)

pub others_apart : (ns : List Note) → AreApart ns → AreApart (other_notes ns)
others_apart [] apart = tt
others_apart (n ∷ ns) apart = apart.1

pub own_has : (k : ℕ) (ns : List Note) → HasNote k (own_note ns) → HasNote k ns
own_has k [] has = has
own_has k (n ∷ ns) (inl same) = inl same
own_has k (n ∷ ns) (inr none) = absurd none

pub others_have : (k : ℕ) (ns : List Note) → HasNote k (other_notes ns) → HasNote k ns
others_have k [] has = has
others_have k (n ∷ ns) has = inr has

pub own_or_other : (k : ℕ) (ns : List Note) → AreApart ns → HasNote k (own_note ns) → ¬ HasNote k (other_notes ns)
own_or_other k [] apart own other = own
own_or_other k (n ∷ ns) apart (inl same) other = apart.0 (subst (λ j. HasNote j ns) (sym same) other)
own_or_other k (n ∷ ns) apart (inr none) other = none

-- ---- a note with nothing seen on each number from a on, n of them

abbrev pub blank_notes : ℕ → ℕ → List Note
blank_notes a n = map (λ k. note k []) (range_with_len a n)

blank_from : (k a n : ℕ) → HasNote k (blank_notes a n) → a ≤ k
blank_from k a zero has = absurd has
blank_from k a (suc n) (inl same) = omega arith
blank_from k a (suc n) (inr has) = let above = blank_from k (a + 1) n has in omega arith

pub blank_right : (seats a n : ℕ) → a + n ≤ seats → AreRight seats [] (blank_notes a n)
blank_right seats a zero within = tt
blank_right seats a (suc n) within = (record { below = omega arith; begins = ([], refl); exact = refl }, blank_right seats (a + 1) n (omega arith))

pub blank_apart : (a n : ℕ) → AreApart (blank_notes a n)
blank_apart a zero = tt
blank_apart a (suc n) = ((λ has. let above = blank_from a (a + 1) n has in absurd (omega arith)), blank_apart (a + 1) n)
