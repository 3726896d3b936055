-- The main thread of a program that begins, and its monitors.
use Rattle.std.specs.Prelude.{◌≡◌, ℕ, false, [], Option}
use Rattle.monitors.specs.Monitors.{Monitors, monitor_of}
use Rattle.vthread_state.specs.declared.phase.Phase.TheVariants.{Run}
use Rattle.vthread_state.specs.declared.thread.Status.TheVariants.{Live}
use Rattle.vthread_state.specs.declared.thread.Thread.{Thread}
use Rattle.vthread_state.specs.declared.thread.ThreadKind.TheVariants.{Platform}
use Rattle.ref_model.specs.Opening.{main_name, main_thread, opening_owners}
use Rattle.program_state.specs.Monitors.{owner_in}

abbrev pub main_row : Thread
main_row = record { kind = Platform; daemon = false; object = main_thread; name = main_name; status = Live Run }

-- there is one thread, which owns this monitor, if any, and nobody is in a list
pub record AreFirst (monitors : Monitors) (owned : Option ℕ) : Type 0 where
  pub owners : (o : ℕ) → owner_in (monitor_of monitors o) ≡ opening_owners owned o
  pub waits : (o : ℕ) → (monitor_of monitors o).wait_list ≡ []
  pub enters : (o : ℕ) → (monitor_of monitors o).entry_list ≡ []
  pub threads : monitors.threads ≡ 1
