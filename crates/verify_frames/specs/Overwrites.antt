-- Local variables that were overwritten since a frame of the map.
use Rattle.std.specs.Prelude.{◌≡◌, ℕ, ◌+◌, ◌-◌, Bool, true, false, List, [], ◌∷◌, ◌++◌, length, get_or, Option, Some, ◌==◌, if◌then◌else◌}
use Rattle.std.specs.List.{list_all, list_any}
use Rattle.std.specs.Option.{option_map_or}
use Rattle.opcodes.specs.declared.op.ValueKind.{ValueKind}
use Rattle.opcodes.specs.declared.op.Op.{Op}
use Rattle.opcodes.specs.declared.op.Op.TheVariants as ops
use Rattle.stack_maps.specs.declared.types.VType.{VType}
use Rattle.stack_maps.specs.declared.types.VType.TheVariants as types
use Rattle.link_model.specs.World.{World}
use Rattle.verify_types.specs.Assignability.{assignable}
use Rattle.verify_types.specs.TypeStates.{TypeState}
use Rattle.verify_instructions.specs.Unfinished.{AreListed}
use Rattle.verify_frames.specs.declared.overwritten.Overwritten.{Overwritten}
use Rattle.verify_frames.specs.declared.watch.Around.{Around}
use Rattle.verify_frames.specs.declared.overwritten.Like.{Like}

-- the type of a local variable, that of an unset one where there is none of the number
abbrev pub type_at : List VType → ℕ → VType
type_at locals slot = get_or locals slot types.Top

abbrev pub is_noted : List Overwritten → ℕ → Bool
is_noted os slot = list_any (λ (o : Overwritten). o.slot == slot) os

-- after these the local variable, where it isn't among them
abbrev pub noting : List VType → ℕ → List Overwritten → List Overwritten
noting locals slot os =
    if is_noted os slot then os else os ++ record { slot = slot; was = type_at locals slot } ∷ []

-- those that a store to this one may overwrite
abbrev pub noting_store : List VType → ℕ → List Overwritten → List Overwritten
noting_store locals n os = noting locals (n + 1) (noting locals n (noting locals (n - 1) os))

-- each was this before
abbrev pub AllWere : List VType → List Overwritten → Type 0
AllWere before [] = Unit {0}
AllWere before (o ∷ os) = (type_at before o.slot ≡ o.was) × AllWere before os

-- local variables that were these others before some were overwritten
pub record AreBut (os : List Overwritten) (before locals : List VType) : Type 0 where
  pub as_many : length before ≡ length locals
  pub kept : (slot : ℕ) → is_noted os slot ≡ false → type_at before slot ≡ type_at locals slot
  pub were : AllWere before os

-- those that were overwritten since a frame, none where a state is like no frame
abbrev pub overwritten_since : Option Like → List Overwritten
overwritten_since like = option_map_or (λ (l : Like). l.overwritten.items) like []

-- those that may be overwritten at these
abbrev pub noting_all : List VType → List ℕ → List Overwritten → List Overwritten
noting_all locals [] os = os
noting_all locals (slot ∷ slots) os = noting_all locals slots (noting locals slot os)

-- the types around a local variable
abbrev pub around : List VType → ℕ → Around
around locals n = record { before = type_at locals (n - 1); at = type_at locals n; next = type_at locals (n + 1) }

-- these were overwritten since the frame at this pc
pub record IsNoted (pc : ℕ) (os : List Overwritten) (l : Like) : Type 0 where
  pub at : l.pc ≡ pc
  pub noted : l.overwritten.items ≡ os

-- whether an instruction leaves the local variables as they are
abbrev pub keeps_locals : Op → Bool
keeps_locals (ops.Store kind n) = false
keeps_locals (ops.InvokeSpecial index) = false
keeps_locals (ops.New index) = false
keeps_locals op = true

-- whether an instruction creates an object, or may initialize one
abbrev pub finishes : Op → Bool
finishes (ops.InvokeSpecial index) = true
finishes (ops.New index) = true
finishes op = false

-- what may be overwritten at the slots of uninitialized objects is noted
pub record NotedAll (before : Like) (locals : List VType) (l : Like) : Type 0 where
  pub slots : List ℕ
  pub listed : AreListed slots locals
  pub noted : IsNoted before.pc (noting_all locals slots before.overwritten.items) l

-- what was overwritten since the same frame and after an instruction, which changes no local variable, or stores to one, or changes
-- the types of uninitialized objects
pub data NotedBehind (op : Op) (locals : List VType) (like : Option Like) (l : Like) : Type 0 where
  leaves : keeps_locals op ≡ true → like ≡ Some l → NotedBehind op locals like l
  stores : (kind : ValueKind) (n : ℕ) (before : Like) → op ≡ ops.Store kind n → like ≡ Some before
      → IsNoted before.pc (noting_store locals n before.overwritten.items) l → NotedBehind op locals like l
  objects : (before : Like) → finishes op ≡ true → like ≡ Some before → NotedAll before locals l → NotedBehind op locals like l

-- whether what overwrote the local variables is assignable to what they were
abbrev pub are_assignable : World → List Overwritten → List VType → Bool
are_assignable w os locals = list_all (λ (o : Overwritten). assignable w (type_at locals o.slot) o.was) os

-- this state has the local variables from before some were overwritten, and all else of the other
pub record IsRestored (os : List Overwritten) (s restored : TypeState) : Type 0 where
  pub locals : (before : List VType) → AreBut os before s.types.locals → restored.types.locals ≡ before
  pub stack : restored.types.stack ≡ s.types.stack
  pub flag : restored.this_uninit ≡ s.this_uninit
