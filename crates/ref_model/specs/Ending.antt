-- How a program ends (JLS 12.8).
use Rattle.std.specs.Prelude.{ℤ, Bool, true, false, Option, Some, None, if◌then◌else◌}
use Rattle.std.specs.List.{list_any}
use Rattle.vthread_state.specs.declared.thread.Status.{Status}
use Rattle.vthread_state.specs.declared.thread.Status.TheVariants.{New, Live, Done}
use Rattle.vthread_state.specs.Threads as table
use Rattle.ref_model.specs.declared.ending.Ending.{Ending}
use Rattle.ref_model.specs.declared.ending.Ending.TheVariants.{Ended, MainThrew, Exited}
use Rattle.ref_model.specs.State.{JavaThread, State}

abbrev pub is_live : Status → Bool
is_live New = false
is_live (Live phase) = true
is_live Done = false

-- a thread that keeps the program going: it was started, didn't end, and is no daemon
abbrev pub keeps_going : JavaThread → Bool
keeps_going x = table.keeps_going x.thread

abbrev pub threads_ending : State → Option Ending
threads_ending r =
    if list_any keeps_going r.threads then None
    else if r.main_threw then Some MainThrew
    else Some Ended

abbrev pub exit_or : Option ℤ → Option Ending → Option Ending
exit_or None other = other
exit_or (Some status) other = Some (Exited status)

-- how the program has ended, if it has
abbrev pub ending : State → Option Ending
ending r = exit_or r.memory.exited (threads_ending r)
