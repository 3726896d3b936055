-- Permits and interrupts: who is given one, and who takes one.
use Rattle.std.specs.Prelude.{◌≡◌, ◌==◌, ◌||◌, ℕ, Bool, false, List, Option, Some, None, if◌then◌else◌, slice_get, slice_set}
use Rattle.vthread_state.specs.declared.phase.Phase.{Phase}
use Rattle.schedule_model.specs.Look.{is_in_line}
use Rattle.ref_model.specs.Looks.{spot_in}
use Rattle.std.specs.Option.{option_map_or}
use Rattle.wakes.specs.Flags.{Flags}
use Rattle.ref_model.specs.State.{State}
use Rattle.program_state.specs.declared.requests.RequestOutcome.{RequestOutcome}
use Rattle.program_state.specs.declared.requests.RequestOutcome.TheVariants as outcomes
use Rattle.program_state.specs.Steps.{PutsNobody, Wakes}

-- whether a thread has a flag that is set
abbrev pub flag_at : List Bool → ℕ → Bool
flag_at flags t = option_map_or (λ (flag : Bool). flag) (slice_get flags t) false

-- Thread t took its permit, if it had one.
pub record IsPermitTaken (t : ℕ) (had : Bool) (old new : Flags) : Type 0 where
  pub was : slice_get old.permits t ≡ Some had
  pub after : new ≡ record old { permits = slice_set old.permits t false }

-- The interrupt status of thread t was cleared, and it was set or not.
pub record IsInterruptTaken (t : ℕ) (had : Bool) (old new : Flags) : Type 0 where
  pub was : slice_get old.interrupts t ≡ Some had
  pub after : new ≡ record old { interrupts = slice_set old.interrupts t false }

-- the thread to which that may be put, where thread t gives a permit or an interrupt to thread u, in this phase
abbrev pub woken_in : ℕ → ℕ → Phase → Option ℕ
woken_in t u phase = if (u == t) || is_in_line (spot_in phase) then None else Some u

-- what thread t does to others by a permit or an interrupt, where that may be put for it
abbrev pub LeavesWoken : ℕ → Option ℕ → State → State → Type 0
LeavesWoken t None = PutsNobody t
LeavesWoken t (Some u) = Wakes t u

abbrev pub wake_outcome : Option ℕ → RequestOutcome
wake_outcome None = outcomes.Done
wake_outcome (Some u) = outcomes.Wakes u
