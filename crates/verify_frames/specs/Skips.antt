-- Nodes further down a path, and the type of one slot.
use Rattle.std.specs.Prelude.{◌≡◌, ℕ, ◌<◌, true, List, Some, length, get_or}
use Rattle.instruction_rows.specs.Contents.{slot_types}
use Rattle.stack_maps.specs.declared.types.VType.{VType}
use Rattle.type_paths.specs.Paths.{IsAbove, Path, types_on}
use Rattle.link_model.specs.World.{World}
use Rattle.verify_types.specs.Assignability.{assignable}
use Rattle.verify_frames.specs.Overwrites.{type_at}

-- for each of the first nodes one that lies on its path
pub record AreSkips (paths : List Path) (skips : List ℕ) : Type 0 where
  pub each : (k : ℕ) → k < length skips → IsAbove paths k (get_or skips k 0)

-- a path has this slot, and this is its type, if all its types are known
pub record IsInside (p : Path) (slot : ℕ) (t : VType) : Type 0 where
  pub is : (ts : List VType) → types_on p ≡ Some ts → (slot < length (slot_types ts)) × (type_at (slot_types ts) slot ≡ t)

-- this is the type of a slot of a path, that of an unset one where there is none of the number, if all its types are known
pub record IsTypeOf (p : Path) (slot : ℕ) (t : VType) : Type 0 where
  pub is : (ts : List VType) → types_on p ≡ Some ts → type_at (slot_types ts) slot ≡ t

-- a local variable fits that of a path, if all its types are known
pub record TakesAt (w : World) (p : Path) (locals : List VType) (slot : ℕ) : Type 0 where
  pub fits : (ts : List VType) → types_on p ≡ Some ts → assignable w (type_at locals slot) (type_at (slot_types ts) slot) ≡ true
