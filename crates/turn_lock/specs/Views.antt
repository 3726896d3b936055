-- What a seat knows.
use Rattle.std.specs.Prelude.{◌≡◌, ◌<◌, ◌⊎◌, ℕ, Bool, false, List, [], ◌∷◌, ◌++◌, map}
use Rattle.std.specs.List.{range_with_len}
use mathlib.Core.List.{IsPrefix}
use Rattle.history.specs.declared.entry.Entry.{Entry}
use Rattle.history.specs.Carriers.{made_by}
use Rattle.turn_lock.specs.declared.view.Note.{Note}
use Rattle.turn_lock.specs.declared.view.View.{View}

-- ---- notes

abbrev pub note : ℕ → List Entry → Note
note number seen = record { number = number; seen = seen }

-- there is a note on this number
abbrev pub HasNote : ℕ → List Note → Type 0
HasNote number [] = ⊥
HasNote number (n ∷ ns) = (n.number ≡ number) ⊎ HasNote number ns

-- no two notes are on one number
abbrev pub AreApart : List Note → Type 0
AreApart [] = Unit {0}
AreApart (n ∷ ns) = (¬ HasNote n.number ns) × AreApart ns

-- The history begins with what was seen, in which all entries of this number stand.
pub record IsRight (seats : ℕ) (log : List Entry) (n : Note) : Type 0 where
  pub below : n.number < seats
  pub begins : IsPrefix n.seen log
  pub exact : made_by n.number log ≡ made_by n.number n.seen

abbrev pub AreRight : ℕ → List Entry → List Note → Type 0
AreRight seats log [] = Unit {0}
AreRight seats log (n ∷ ns) = IsRight seats log n × AreRight seats log ns

-- ---- views

abbrev pub number_in : List Note → ℕ
number_in [] = 0
number_in (n ∷ ns) = n.number

abbrev pub seen_in : List Note → List Entry
seen_in [] = []
seen_in (n ∷ ns) = n.seen

-- the number of the seat, and what it has seen
abbrev pub number_of : View → ℕ
number_of v = number_in v.notes

abbrev pub seen_of : View → List Entry
seen_of v = seen_in v.notes

abbrev pub view : Bool → Bool → List Note → View
view holds has_slot notes = record { holds = holds; has_slot = has_slot; notes = notes }

-- the view of a seat that answers for no other
abbrev pub view_of : Bool → ℕ → List Entry → View
view_of holds number seen = view holds false (note number seen ∷ [])

-- the view of a seat that is no more
abbrev pub spent_view : View
spent_view = view false false []

-- the view of the seat of which all others are split off
abbrev pub first_view : ℕ → View
first_view seats = view false false (map (λ k. note k []) (range_with_len 0 seats))

abbrev pub noted : List Entry → List Note → List Note
noted seen [] = []
noted seen (n ∷ ns) = note n.number seen ∷ ns

-- the view after a step, by which the seat has seen this
abbrev pub after_step : View → Bool → Bool → List Entry → View
after_step v holds has_slot seen = view holds has_slot (noted seen v.notes)

-- ---- one seat of several, and several in one

abbrev pub own_note : List Note → List Note
own_note [] = []
own_note (n ∷ ns) = n ∷ []

abbrev pub other_notes : List Note → List Note
other_notes [] = []
other_notes (n ∷ ns) = ns

abbrev pub own_view : View → View
own_view v = view false false (own_note v.notes)

abbrev pub others_view : View → View
others_view v = view false false (other_notes v.notes)

abbrev pub joined_view : View → View → View
joined_view v w = view false false (v.notes ++ w.notes)
