-- Who owns a monitor, by the parts of a state, and how its owner leaves it once (JLS 17.1).
use Rattle.std.specs.Prelude.{◌≡◌, ◌==◌, ℕ, Bool, true, false, Option, Some, None, nat_lt, slice_get}
use Rattle.monitors.specs.Monitors.{Becomes, Monitors, after_exit, monitor_of}
use Rattle.ref_model.specs.Monitors.{is_owner}
use Rattle.program_state.specs.Monitors.{owner_in}
use Rattle.monitor_steps.specs.declared.outcome.MonitorOutcome.{MonitorOutcome}
use Rattle.monitor_steps.specs.declared.outcome.MonitorOutcome.TheVariants as outcomes

-- whether a thread owns a monitor
abbrev pub owns_in : Monitors → ℕ → ℕ → Bool
owns_in all t o = is_owner t (owner_in (monitor_of all o))

-- Thread t, which owned the monitor and had entered it, left it once.
pub record HasLeft (t o : ℕ) (old new : Monitors) : Type 0 where
  pub owner : (monitor_of old o).owner ≡ Some t
  pub entered : ((monitor_of old o).count == 0) ≡ false
  pub becomes : Becomes old new o (after_exit (monitor_of old o))

-- It owns the monitor still; or nobody does, and this is the first in line for it, if there is one.
abbrev pub IsLeftAs : ℕ → ℕ → MonitorOutcome → Monitors → Monitors → Type 0
IsLeftAs t o outcomes.Done old new = HasLeft t o old new × (nat_lt 1 (monitor_of old o).count ≡ true)
IsLeftAs t o (outcomes.Frees first) old new =
    HasLeft t o old new × (nat_lt 1 (monitor_of old o).count ≡ false) × (first ≡ slice_get (monitor_of old o).entry_list 0)
IsLeftAs t o (outcomes.Notifies u) old new = ⊥

-- It left the monitor, or isn't its owner.
abbrev pub IsLeft : ℕ → ℕ → Option MonitorOutcome → Monitors → Monitors → Type 0
IsLeft t o (Some outcome) old new = IsLeftAs t o outcome old new
IsLeft t o None old new = (owns_in old t o ≡ false) × (new ≡ old)
