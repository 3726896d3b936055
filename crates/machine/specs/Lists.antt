-- The lists of monitors in a machine, and in its schedule.
use Rattle.std.specs.Prelude.{◌≡◌, ℕ}
use Rattle.monitors.specs.Monitors.{Monitors, monitor_of}
use Rattle.schedule_model.specs.Schedule.{Schedule}

-- each monitor has the lists that the schedule has
pub record HasLists (a : Monitors) (s : Schedule) : Type 0 where
  pub waits : (o : ℕ) → (monitor_of a o).wait_list ≡ s.wait_list o
  pub enters : (o : ℕ) → (monitor_of a o).entry_list ≡ s.entry_list o
