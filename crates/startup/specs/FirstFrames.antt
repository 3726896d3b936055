-- The frames with which a program begins.
use Rattle.std.specs.Prelude.{◌≡◌, ◌+◌, ℕ, List, [], ◌∷◌, Option, Some, None}
use Rattle.items.specs.Options.{◌>>=◌}
use Rattle.instruction_rows.specs.declared.value.Value.TheVariants as values
use Rattle.instruction_rows.specs.declared.value.Slot.TheVariants.{One}
use Rattle.link_model.specs.World.{World}
use Rattle.state_model.specs.Frames.{Frame}
use Rattle.frames.specs.Frames.{with_local}
use Rattle.ref_model.specs.Opening.{frame_of, frames_of, guarded_by, initializers}

-- the frames are these and one more of the method, in which all local variables are unset
pub record HasFrame (w : World) (method : ℕ) (below frames : List Frame) : Type 0 where
  pub frame : Frame
  pub is : frame_of w method [] ≡ Some frame
  pub all : frames ≡ frame ∷ below

-- main's frame, by the number of the array of words
abbrev pub main_frame : World → ℕ → ℕ → Option Frame
main_frame w main words = frame_of w main (One (values.Ref words) ∷ [])

-- it may hold a monitor
pub record IsFirst (w : World) (main words : ℕ) (monitor : Option ℕ) (frames : List Frame) : Type 0 where
  pub frame : Frame
  pub is : main_frame w main words ≡ Some frame
  pub all : frames ≡ guarded_by monitor frame ∷ []

-- main's frame and those of the class initializers
abbrev pub frames_with : World → ℕ → ℕ → Option ℕ → Option (List Frame)
frames_with w main words monitor =
    main_frame w main words >>= λ f. frames_of w (initializers w.program) (guarded_by monitor f ∷ [])

-- how many local variables a frame has that may hold a monitor
abbrev pub count_with : ℕ → Option ℕ → ℕ
count_with locals None = locals
count_with locals (Some o) = locals + 1

-- the frames where the top one holds a monitor in this local variable, if there is one
abbrev pub holding : ℕ → Option ℕ → List Frame → List Frame
holding last None frames = frames
holding last (Some o) frames = with_local last (One (values.Ref o)) frames
