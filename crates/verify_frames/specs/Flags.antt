-- Whether the object whose constructor runs is on a path, node by node.
use Rattle.std.specs.Prelude.{◌≡◌, ℕ, ◌<◌, Bool, false, List, length, get_or, ◌&&◌}
use Rattle.std.specs.List.{list_any}
use Rattle.type_paths.specs.Paths.{Path, path}
use Rattle.verify_frames.specs.PathFits.{is_this_item}

-- these say it of the first paths
pub record AreFlagged (paths : List Path) (flags : List Bool) : Type 0 where
  pub each : (k : ℕ) → k < length flags → get_or flags k false ≡ list_any is_this_item (path paths k)

-- in a constructor it is on both or on none
abbrev pub HaveSameFlag : Bool → Path → Path → Type 0
HaveSameFlag constructor p q = (constructor && list_any is_this_item p) ≡ (constructor && list_any is_this_item q)
