-- Slots that fit the types of a path.
use Rattle.std.specs.Prelude.{◌≡◌, ℕ, Bool, true, false, List, ◌++◌, Option, reverse}
use Rattle.std.specs.Option.{option_map_or}
use Rattle.stack_maps.specs.declared.types.VType.{VType}
use Rattle.instruction_rows.specs.Contents.{slot_types}
use Rattle.type_paths.specs.Paths.{Path, types_on}
use Rattle.link_model.specs.World.{World}
use Rattle.verify_types.specs.TypeStates.{TypeState, all_assignable, is_this, padded}

-- whether all types of the path are known, and the slots are assignable to theirs
abbrev pub fit_path : World → List VType → Path → Bool
fit_path w slots p = option_map_or (λ ts. all_assignable w slots (slot_types ts)) (types_on p) false

-- whether the local variables are assignable to those of the path and the unset ones after them, where all types are known
abbrev pub fit_locals : World → ℕ → List VType → Path → Bool
fit_locals w max_locals locals p = option_map_or (λ ts. all_assignable w locals (padded max_locals (slot_types ts))) (types_on p) true

-- what is known of slots in front of those of a type
pub record AreInFront (w : World) (slots front last : List VType) : Type 0 where
  pub same : (others : List VType) → all_assignable w slots (others ++ last) ≡ all_assignable w front others

pub record EndElse (w : World) (slots last : List VType) : Type 0 where
  pub differ : (others : List VType) → all_assignable w slots (others ++ last) ≡ false

abbrev pub is_this_item : Option VType → Bool
is_this_item item = option_map_or is_this item false

-- the state that has these types, the top of the operand stack last
abbrev pub state_of_slots : List VType → List VType → Bool → TypeState
state_of_slots locals stack this_uninit = record { types = record { locals = locals; stack = reverse stack }; this_uninit = this_uninit }
