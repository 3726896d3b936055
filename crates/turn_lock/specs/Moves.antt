-- What each step on a word tells the seat that made it.
use Rattle.std.specs.Prelude.{◌≡◌, ◌+◌, ◌==◌, ℕ, true, false, Option, Some, None, List, [], ◌∷◌, length, take, MatchBool}
use mathlib.Core.Option.{Option as Maybe, some, none}
use mathlib.Core.List.{IsPrefix}
use Rattle.atomic_table.specs.Table.{Me, Step}
use Rattle.history.specs.declared.entry.Entry.{Entry}
use Rattle.history.specs.Carriers.{made_by}
use Rattle.turn_lock.specs.declared.view.View.{View}
use Rattle.turn_lock.specs.Views.{after_step, note, number_of, seen_of, view, view_of}

-- the seat before and after a step, with the slots that it has
abbrev pub Mine : Type 0 → Type 0
Mine V = Me (Option V) View

module _ {V : Type 0} where
  -- nothing changed
  abbrev pub Stays : Step (Option V) → Mine V → ℕ → Mine V → Type 0
  Stays step me found next = next ≡ me

  -- the slot is put down, with what is in it
  abbrev pub PutsDown : Step (Option V) → Mine V → ℕ → Mine V → Type 0
  PutsDown step me found next = next ≡ (after_step me.0 true false (seen_of me.0), [])

  -- the empty slot is picked up
  abbrev pub PicksUp : Step (Option V) → Mine V → ℕ → Mine V → Type 0
  PicksUp step me found next = next ≡ (after_step me.0 true true (seen_of me.0), (0, None) ∷ [])

  -- the turn is over, and the slot is put down
  abbrev pub Gives : Step (Option V) → Mine V → ℕ → Mine V → Type 0
  Gives step me found next = next ≡ (after_step me.0 false false (seen_of me.0), [])

module _ {V : Type 0} (history : V → List Entry) where
  -- the seat has the turn and the slot with this value, whose history it has seen
  pub record HasTaken (admits : V → Type 0) (me : Mine V) (value : V) (next : Mine V) : Type 0 where
    pub after : next ≡ (after_step me.0 true true (history value), (0, Some value) ∷ me.1)
    pub begins : IsPrefix (seen_of me.0) (history value)
    pub exact : made_by (number_of me.0) (history value) ≡ made_by (number_of me.0) (seen_of me.0)
    pub admitted : admits value

  -- where the turn was free it is taken, and else nothing changed
  abbrev pub Takes : (V → Type 0) → Step (Option V) → Mine V → ℕ → Mine V → Type 0
  Takes admits step me found next = MatchBool (found == 0) ((value : V) × HasTaken admits me value next) (next ≡ me)

  -- with one entry more of the value's history seen
  abbrev pub one_more : Maybe (Option V) → View → View
  one_more (some (Some value)) v = after_step v true true (take (length (seen_of v) + 1) (history value))
  one_more (some None) v = v
  one_more none v = v

  -- one entry is counted and seen
  abbrev pub Counts : Step (Option V) → Mine V → ℕ → Mine V → Type 0
  Counts step me found next = next ≡ (one_more step.said me.0, me.1)

  -- ---- the steps of a turn together

  -- the seat has the turn, and the value is out of the slot
  pub record IsTaken (admits : V → Type 0) (number : ℕ) (seen : List Entry) (value : V) (me : Mine V) : Type 0 where
    pub view : me ≡ (view_of true number (history value), [])
    pub begins : IsPrefix seen (history value)
    pub exact : made_by number (history value) ≡ made_by number seen
    pub admitted : admits value

  -- the seat has the empty slot, and has counted and seen all entries of the value
  pub record IsCounted (me : Mine V) (found : Option V) : Type 0 where
    pub value : V
    pub is : found ≡ Some value
    pub view : me ≡ (view true true (note (number_of me.0) (history value) ∷ []), (0, None) ∷ [])
