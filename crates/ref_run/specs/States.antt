-- The state of the reference machine that the tables of a replay hold.
use Rattle.std.specs.Prelude.{ℕ, List, Option, nat_eq, slice_get}
use Rattle.std.specs.HashMap.{get}
use Rattle.std.specs.Option.{option_map}
use Rattle.items.specs.Options.{◌>>=◌}
use Rattle.vthread_state.specs.declared.phase.Phase.{Phase}
use Rattle.vthread_state.specs.declared.thread.Status.{Status}
use Rattle.vthread_state.specs.Threads.{phase_of as phase_of_status}
use Rattle.state_model.specs.Frames.{Frame}
use Rattle.ref_model.specs.State as model
use Rattle.ref_model.specs.State.{JavaThread, State}
use Rattle.thread_steps.specs.States.{memory_of}
use Rattle.ref_run.specs.declared.state.RefState.{RefState}
use Rattle.ref_run.specs.Owners.{owner_of}

abbrev pub owners_of : RefState → ℕ → Option model.Owner
owners_of a o = owner_of (get nat_eq a.owners o)

abbrev pub state_of : RefState → State
state_of a = record {
  memory = memory_of a.memory;
  threads = a.threads.items;
  most_threads = a.most_threads;
  unnamed = a.unnamed;
  owners = owners_of a;
  now = a.time;
  main_threw = a.memory.main_threw;
}

-- the frames of a thread
abbrev pub frames_of : State → ℕ → Option (List Frame)
frames_of r t = option_map (λ (x : JavaThread). x.frames) (slice_get r.threads t)

-- how far it is, and its phase where it is live
abbrev pub status_of : State → ℕ → Option Status
status_of r t = option_map (λ (x : JavaThread). x.thread.status) (slice_get r.threads t)

abbrev pub phase_of : State → ℕ → Option Phase
phase_of r t = status_of r t >>= phase_of_status
