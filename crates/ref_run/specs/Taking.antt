-- Frames of a thread that are taken out of the state, and put back.
use Rattle.std.specs.Prelude.{◌≡◌, ◌<◌, ℕ, List, [], Some, length, slice_get, slice_set}
use Rattle.state_model.specs.Frames.{Frame}
use Rattle.ref_model.specs.State.{JavaThread}
use Rattle.ref_run.specs.declared.state.RefState.{RefState}
use Rattle.ref_run.specs.States.{state_of}

-- The frames of thread t were taken, of which there is one at least, and the memory has its status.
pub record IsTaken (t : ℕ) (old : RefState) (frames : List Frame) (new : RefState) : Type 0 where
  pub thread : JavaThread
  pub at : slice_get old.threads.items t ≡ Some thread
  pub frames_are : frames ≡ thread.frames
  pub some : 0 < length frames
  pub memory : new.memory ≡ record old.memory { status = thread.thread.status }
  pub state : state_of new ≡ record (state_of old) { threads = slice_set old.threads.items t (record thread { frames = [] }) }

-- Thread t has these frames, and the status that is in the memory.
abbrev pub IsPut : ℕ → RefState → List Frame → RefState → Type 0
IsPut t old frames new = (x : JavaThread) → slice_get old.threads.items t ≡ Some x → state_of new ≡ record (state_of old) {
  threads = slice_set old.threads.items t (record x { thread = record x.thread { status = old.memory.status }; frames = frames });
}
