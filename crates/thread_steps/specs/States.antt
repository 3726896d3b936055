-- The state in which a program is, by the parts that a step of one of its threads reads and writes.
use Rattle.std.specs.Prelude.{◌≡◌, ◌-◌, ℕ, List, Some, slice_get, slice_set}
use Rattle.link_model.specs.World.{World}
use Rattle.state_model.specs.Frames.{Frame}
use Rattle.ref_model.specs.Memory.{Memory}
use Rattle.ref_model.specs.State.{JavaThread, State}
use Rattle.ref_model.specs.LocalRows.{row}
use Rattle.ref_model.specs.Step.{row_or_event}
use Rattle.thread_steps.specs.declared.parts.Parts.{Parts}

-- a state, and one of its threads
pub record Stage : Type 0 where
  pub state : State
  pub number : ℕ
  pub thread : JavaThread
  pub there : slice_get state.threads number ≡ Some thread

-- the parts that instructions on objects and native methods read and write
abbrev pub memory_of : Parts → Memory
memory_of a = record {
  heap = a.natives.heap.objects;
  room = a.natives.heap.cells - a.natives.heap.used;
  statics = a.statics.items;
  out = a.natives.out.items;
  err = a.natives.err.items;
  exited = a.natives.exited;
}

-- the thread of the stage, where it has this status and these frames
abbrev pub own_thread : Stage → Parts → List Frame → JavaThread
own_thread stage a frames = record stage.thread {
  thread = record stage.thread.thread { status = a.status };
  frames = frames;
}

-- The state of the stage with these parts, in which its thread has these frames. The other threads, their limit and the time are the
-- stage's own.
abbrev pub state_of : Stage → Parts → List Frame → State
state_of stage a frames = record stage.state {
  memory = memory_of a;
  threads = slice_set stage.state.threads stage.number (own_thread stage a frames);
  main_threw = a.main_threw;
}

-- The instruction at the top frame's pc of a thread leads from one state to the other.
abbrev pub IsRunStep : World → ℕ → State → List Frame → State → Type 0
IsRunStep w t r frames q = row_or_event w r t frames (row w frames) ≡ Some q
