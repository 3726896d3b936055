-- Sleepers by their keys.
use Rattle.std.specs.Prelude.{◌≡◌, ◌≢◌, ℕ, ◌≤◌, Bool, true, false, List, map, Option, Some, None, slice_index_or, slice_set, nat_le, filter_map, if◌then◌else◌, IsPermutation, IsSorted}
use Rattle.std.specs.List.{filter}
use Rattle.std.specs.Ordering.{ordering_then, is_lt, nat_cmp}
use Rattle.std.specs.declared.cmp.Ordering.{Ordering}
use Rattle.sleep_wheel.specs.declared.sleeper.Sleeper.{Sleeper}

-- the sleeper, if any, of each key from 0 on, and a number of sleepers for which there is room
pub record Sleepers : Type 0 where
  pub slots : List (Option Sleeper)
  pub spare : ℕ

abbrev pub slot_at : List (Option Sleeper) → ℕ → Option Sleeper
slot_at slots key = slice_index_or slots key None

-- the sleeper of a key
abbrev pub sleeper_at : Sleepers → ℕ → Option Sleeper
sleeper_at w key = slot_at w.slots key

abbrev pub values_of : List (Option Sleeper) → List Sleeper
values_of slots = filter_map (λ slot. slot) slots

-- all sleepers, in no order that means anything
abbrev pub sleepers_of : Sleepers → List Sleeper
sleepers_of w = values_of w.slots

-- the key has this sleeper or none now, and all other keys have what they had
pub record Changes (old new : Sleepers) (key : ℕ) (slot : Option Sleeper) : Type 0 where
  pub changed : sleeper_at new key ≡ slot
  pub others : (other : ℕ) → other ≢ key → sleeper_at new other ≡ sleeper_at old other

-- ---- deadlines

-- the order of sleepers: by deadline, and then by thread
abbrev pub sleeper_cmp : Sleeper → Sleeper → Ordering
sleeper_cmp a b = ordering_then (nat_cmp a.deadline b.deadline) (nat_cmp a.thread b.thread)

abbrev pub is_due : ℕ → Sleeper → Bool
is_due now s = nat_le s.deadline now

-- a key's sleeper, unless it is due
abbrev pub left_after : ℕ → Option Sleeper → Option Sleeper
left_after now None = None
left_after now (Some s) = if is_due now s then None else Some s

-- some sleeper has this deadline, and none has an earlier one
pub record IsEarliest (w : Sleepers) (deadline : ℕ) : Type 0 where
  pub key : ℕ
  pub sleeper : Sleeper
  pub here : sleeper_at w key ≡ Some sleeper
  pub deadline_is : sleeper.deadline ≡ deadline
  pub least : (other : ℕ) (s : Sleeper) → sleeper_at w other ≡ Some s → deadline ≤ s.deadline

-- the threads of those of these sleepers that are due, in order
pub record IsDueList (now : ℕ) (sleepers : List Sleeper) (threads : List ℕ) : Type 0 where
  pub due : List Sleeper
  pub just_these : IsPermutation (filter (is_due now) sleepers) due
  pub in_order : IsSorted sleeper_cmp due
  pub threads_are : threads ≡ map (λ (s : Sleeper). s.thread) due

-- ---- one after the other

-- a sleeper that is due was taken out, and none of those that were there comes before it
pub record TakesFirst (now : ℕ) (old new : List (Option Sleeper)) (s : Sleeper) : Type 0 where
  pub key : ℕ
  pub here : slot_at old key ≡ Some s
  pub is_due : is_due now s ≡ true
  pub first : (other : ℕ) (u : Sleeper) → slot_at old other ≡ Some u → is_lt (sleeper_cmp u s) ≡ false
  pub after : new ≡ slice_set old key None

-- no sleeper is due
pub record NoneDue (now : ℕ) (slots : List (Option Sleeper)) : Type 0 where
  pub none : (key : ℕ) (s : Sleeper) → slot_at slots key ≡ Some s → is_due now s ≡ false
