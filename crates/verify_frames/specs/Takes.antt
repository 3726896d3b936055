-- Single local variables that fit a frame.
use Rattle.std.specs.Prelude.{◌≡◌, ℕ, true, List, Some}
use Rattle.std.specs.List.{All}
use Rattle.stack_maps.specs.declared.types.VType.{VType}
use Rattle.link_model.specs.World.{World}
use Rattle.verify_types.specs.Assignability.{assignable}
use Rattle.verify_types.specs.Environment.{MapFrame}
use Rattle.verify_types.specs.TypeStates.{TypeState}
use Rattle.verify_frames.specs.Frames.{frame_at}
use Rattle.verify_frames.specs.Overwrites.{type_at}

-- local variables at these slots fit the frame at a pc
pub record Takes (w : World) (fs : List MapFrame) (pc : ℕ) (locals : List VType) (slots : List ℕ) : Type 0 where
  pub each : (f : MapFrame) (g : TypeState) → frame_at pc fs ≡ Some f → f.state ≡ Some g → All (λ i. assignable w (type_at locals i) (type_at g.types.locals i) ≡ true) slots
