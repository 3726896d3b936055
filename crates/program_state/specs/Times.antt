-- Time that goes on (own), and the threads whose deadlines it reaches.
use Rattle.std.specs.Prelude.{◌≡◌, ◌≤◌, ◌==◌, ◌↔◌, ℕ, Bool, List, Some, Contains, IsSorted, map}
use Rattle.std.specs.List.{IsDistinct}
use Rattle.sleep_wheel.specs.declared.sleeper.Sleeper.{Sleeper}
use Rattle.sleep_wheel.specs.Sleepers.{sleeper_cmp}
use Rattle.link_model.specs.World.{World}
use Rattle.monitors.specs.Monitors.{Monitors, monitor_of}
use Rattle.monitor_soundness.specs.TickLaws.{left_by, lined_up_by}
use Rattle.ref_model.specs.Looks.{look_of}
use Rattle.ref_model.specs.State.{State}
use Rattle.ref_model.specs.Waiting.{at_time}
use Rattle.program_state.specs.declared.state.ProgramState.{ProgramState}
use Rattle.program_state.specs.Deadlines.{deadlines_of}
use Rattle.program_state.specs.States.{IsState}

-- The definitions let time go on to this, and the parts are those of the state after it.
pub record Passes (now : ℕ) (new : ProgramState) (r : State) (out : ℕ → Bool) : Type 0 where
  pub next : State
  pub ticks : at_time r now ≡ Some next
  pub is : IsState new next out

-- the lists of monitors after a tick: those that are due and wait on one go from its wait list to its entry list, one after the other, in this order
pub record DueMove (w : World) (r : State) (due : List ℕ) (old new : Monitors) : Type 0 where
  pub waits : (o : ℕ) → (monitor_of new o).wait_list ≡ left_by (look_of w r) o due (monitor_of old o).wait_list
  pub enters : (o : ℕ) → (monitor_of new o).entry_list ≡ lined_up_by (look_of w r) o due (monitor_of old o).entry_list

-- the threads whose deadlines were to come and are reached at a time, in the order of (deadline, thread)
pub record AreDue (r : State) (now : ℕ) (threads : List ℕ) : Type 0 where
  pub sleepers : List Sleeper
  pub threads_are : threads ≡ map (λ s. s.thread) sleepers
  pub in_order : IsSorted sleeper_cmp sleepers
  pub just_these : (s : Sleeper) →
      Contains sleepers s ↔ ((deadlines_of r.now r.threads s.thread ≡ Some s.deadline) × (s.deadline ≤ now))
  pub once : IsDistinct (λ t u. t == u) threads
