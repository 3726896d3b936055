-- The frames of a thread that runs are its own: no step of another thread changes them, nor does time.
use Rattle.std.specs.Prelude.{◌≡◌, ◌≢◌, ℕ, List, Option, Some}
use Rattle.state_model.specs.Frames.{Frame}
use Rattle.ref_model.specs.Setting.{Setting}
use Rattle.ref_model.specs.State.{State, frames_at}
use Rattle.ref_model.specs.Step.{step}
use Rattle.ref_model.specs.Run.{after_steps}
use Rattle.ref_model.specs.Waiting.{at_time}

-- each thread but this one that runs goes on to run, with the same frames
abbrev pub Leaves : ℕ → State → State → Type 0
Leaves t before after = (u : ℕ) (frames : List Frame) → u ≢ t → frames_at before u ≡ Some frames → frames_at after u ≡ Some frames

abbrev pub StepsLeaveOthers : Type 0
StepsLeaveOthers = (p : Setting) (r q : State) (t : ℕ) (pick : Option ℕ) → step p r t pick ≡ Some q → Leaves t r q

-- so do all the steps of an entry
abbrev pub EntriesLeaveOthers : Type 0
EntriesLeaveOthers = (p : Setting) (r q : State) (t n : ℕ) (pick : Option ℕ) → after_steps p r t n pick ≡ Some q → Leaves t r q

abbrev pub TimeLeavesFrames : Type 0
TimeLeavesFrames = (r q : State) (now u : ℕ) (frames : List Frame) → at_time r now ≡ Some q → frames_at r u ≡ Some frames →
    frames_at q u ≡ Some frames
