-- Objects that aren't initialized, by the pcs of their `new`s.
use Rattle.std.specs.Prelude.{◌≡◌, ℕ, Bool, true, false, List, get_or}
use Rattle.std.specs.List.{list_any}
use Rattle.stack_maps.specs.declared.types.VType.{VType}
use Rattle.verify_types.specs.TypeStates.{is_new}

-- the pc of each object among these types is marked
pub record AreMarked (ts : List VType) (made : List Bool) : Type 0 where
  pub all : (pc : ℕ) → list_any (is_new pc) ts ≡ true → get_or made pc false ≡ true

-- where they are marked
pub record AreMarkedWhere (are_marked : Bool) (ts : List VType) (made : List Bool) : Type 0 where
  pub all : are_marked ≡ true → (pc : ℕ) → list_any (is_new pc) ts ≡ true → get_or made pc false ≡ true
