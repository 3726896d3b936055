-- What `Thread.getState` answers, as the API of `Thread.State` has it.
use Rattle.std.specs.Prelude.{ℕ, Option, Some, None}
use Rattle.vthread_state.specs.declared.phase.Phase.{Phase}
use Rattle.vthread_state.specs.declared.phase.Phase.TheVariants.{Run, Throwing, Entering, Waiting, Reenter, Parked, Asleep, Joining}
use Rattle.vthread_state.specs.declared.thread.Status.{Status}
use Rattle.vthread_state.specs.declared.thread.Status.TheVariants.{New, Live, Done}
use Rattle.vthread_state.specs.declared.java_state.JavaState.{JavaState}
use Rattle.vthread_state.specs.declared.java_state.JavaState.TheVariants as states

-- with or without a time
abbrev pub waiting : Option ℕ → JavaState
waiting None = states.Waiting
waiting (Some deadline) = states.TimedWaiting

abbrev pub phase_state : Phase → JavaState
phase_state Run = states.Runnable
phase_state (Throwing exception) = states.Runnable
phase_state (Entering monitor) = states.Blocked
phase_state (Waiting monitor count deadline) = waiting deadline
phase_state (Reenter monitor count wake) = states.Blocked
phase_state (Parked deadline) = waiting deadline
phase_state (Asleep deadline) = states.TimedWaiting
phase_state (Joining target deadline) = waiting deadline

abbrev pub java_state : Status → JavaState
java_state New = states.New
java_state (Live phase) = phase_state phase
java_state Done = states.Terminated
