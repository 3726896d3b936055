-- The status that a step leaves in the memory is written to the table of threads.
use Rattle.std.specs.Prelude.{◌≡◌, ◌==◌, ℕ, Bool, true, false}
use Rattle.vthread_state.specs.declared.phase.Phase.{Phase}
use Rattle.vthread_state.specs.declared.phase.Phase.TheVariants.{Run, Throwing}
use Rattle.vthread_state.specs.declared.thread.Status.{Status}
use Rattle.vthread_state.specs.declared.thread.Status.TheVariants.{New, Live, Done}
use Rattle.vthread_state.specs.Threads.{Threads, with_status}
use Rattle.program_state.specs.declared.state.ProgramState.{ProgramState}

-- the thread runs, throws, or is done: a step that asks nothing leaves it so
abbrev pub is_stepped_phase : Phase → Bool
is_stepped_phase Run = true
is_stepped_phase (Throwing o) = true
is_stepped_phase phase = false

abbrev pub is_stepped : Status → Bool
is_stepped New = false
is_stepped (Live phase) = is_stepped_phase phase
is_stepped Done = true

-- it runs
abbrev pub is_run_phase : Phase → Bool
is_run_phase Run = true
is_run_phase phase = false

abbrev pub is_running_status : Status → Bool
is_running_status New = false
is_running_status (Live phase) = is_run_phase phase
is_running_status Done = false

-- it throws this object
abbrev pub throws_in : ℕ → Phase → Bool
throws_in o (Throwing thrown) = thrown == o
throws_in o phase = false

abbrev pub throws_status : ℕ → Status → Bool
throws_status o New = false
throws_status o (Live phase) = throws_in o phase
throws_status o Done = false

-- the thread has such a status now
pub record IsStatusSet (t : ℕ) (status : Status) (old new : Threads) : Type 0 where
  pub stepped : is_stepped status ≡ true
  pub threads : new ≡ with_status old t status

-- It has the status that the memory had, and the memory has that of a thread that runs.
pub record IsSettled (t : ℕ) (old new : ProgramState) : Type 0 where
  pub stepped : is_stepped old.memory.status ≡ true
  pub state : new ≡ record old {
    memory = record old.memory { status = Live Run };
    threads = with_status old.threads t old.memory.status;
  }
