-- The rule of the lock: what holds of its words, its slot and what its seats know, between any two steps.
use Rattle.std.specs.Prelude.{◌≡◌, ◌≤◌, ◌+◌, ◌⊎◌, ◌≢◌, ℕ, true, false, Option, Some, None, List, [], ◌∷◌, length}
use mathlib.Core.Option.{Option as Maybe, some}
use lib.ListN.{get_elem?}
use Rattle.atomic_table.specs.Table.{State}
use Rattle.history.specs.declared.entry.Entry.{Entry}
use Rattle.history.specs.Carriers.{made_by}
use Rattle.turn_lock.specs.declared.view.Note.{Note}
use Rattle.turn_lock.specs.declared.view.View.{View}
use Rattle.turn_lock.specs.Views.{AreApart, AreRight, HasNote, note}

-- the view of seat number i
abbrev pub IsAt : List View → ℕ → View → Type 0
IsAt views i v = get_elem? views i ≡ some v

-- a seat that has the turn has seen the whole history, and the turn word names it
pub record HasTurn (turn : ℕ) (log : List Entry) (v : View) : Type 0 where
  pub number : ℕ
  pub others : List Note
  pub notes : v.notes ≡ note number log ∷ others
  pub named : turn ≡ number + 1

-- one of the seats has the turn
pub record IsHeld (views : List View) : Type 0 where
  pub seat : ℕ
  pub known : View
  pub there : IsAt views seat known
  pub holds : known.holds ≡ true

-- What one seat knows is so. One that has the turn and not the slot has left the slot empty.
pub record Knows {V : Type 0} (seats turn : ℕ) (homes : List (Maybe (Option V))) (log : List Entry) (v : View) : Type 0 where
  pub right : AreRight seats log v.notes
  pub apart : AreApart v.notes
  pub turn_is : v.holds ≡ true → HasTurn turn log v
  pub empty : v.holds ≡ true → v.has_slot ≡ false → homes ≡ some None ∷ []

module _ {V C : Type 0} (history : V → List Entry) (setting : V → C) (initial : V) where
  -- the value is in its slot
  pub record IsHome (homes : List (Maybe (Option V))) (log : List Entry) : Type 0 where
    pub value : V
    pub there : homes ≡ some (Some value) ∷ []
    pub same : setting value ≡ setting initial
    pub all : history value ≡ log

  module _ (seats : ℕ) where
    -- What holds with this history, where `turn` and `count` are the first two words.
    pub record Agrees (turn count : ℕ) (homes : List (Maybe (Option V))) (views : List View) (log : List Entry) : Type 0 where
      pub counts : count ≡ length log
      -- only carriers with a seat have entries
      pub others : (k : ℕ) → seats ≤ k → made_by k log ≡ []
      pub knows : (i : ℕ) (v : View) → IsAt views i v → Knows seats turn homes log v
      -- no two seats have a note on the same number
      pub separate : (i j : ℕ) (v w : View) → i ≢ j → IsAt views i v → IsAt views j w → (k : ℕ) → HasNote k v.notes → ¬ HasNote k w.notes
      -- while nobody has the turn, the value is in its slot
      pub home : turn ≡ 0 → IsHome homes log
      pub held : (turn ≡ 0) ⊎ IsHeld views

    -- There is one history with which all agree. Nothing is said of the third word.
    pub record IsInOrder (s : State (Option V) View) : Type 0 where
      pub turn : ℕ
      pub count : ℕ
      pub waiting : ℕ
      pub log : List Entry
      pub words : s.words ≡ turn ∷ count ∷ waiting ∷ []
      pub agrees : Agrees turn count s.homes s.views log
