-- Time in a machine, in nanoseconds: when it may go on, and which deadlines are still to come.
use Rattle.std.specs.Prelude.{◌≡◌, ◌<◌, ◌≤◌, ℕ, Option, Some, None}
use Rattle.ref_model.specs.State.{State}
pub use Rattle.schedule_soundness.specs.ClockLaws.{IsAwaited}
use Rattle.program_state.specs.Deadlines.{IsLeast, deadlines_of}
use Rattle.machine.specs.Machines.{Given, Known}

abbrev pub Awaits : Known → ℕ → Type 0
Awaits m now = Given m (λ v. IsAwaited m.setting.world v.state now)

abbrev pub AwaitsNothing : Known → ℕ → Type 0
AwaitsNothing m now = Given m (λ v. IsAwaited m.setting.world v.state now → ⊥)

-- the time is less than this
abbrev pub IsBefore : Known → ℕ → Type 0
IsBefore m now = Given m (λ v. v.state.now < now)

-- it isn't
abbrev pub IsNotBefore : Known → ℕ → Type 0
IsNotBefore m now = Given m (λ v. now ≤ v.state.now)

-- the least deadline that is still to come, or none
abbrev pub IsEarliestIn : State → Option ℕ → Type 0
IsEarliestIn r None = (t : ℕ) → deadlines_of r.now r.threads t ≡ None
IsEarliestIn r (Some deadline) = IsLeast (deadlines_of r.now r.threads) deadline

abbrev pub IsEarliest : Known → Option ℕ → Type 0
IsEarliest m deadline = Given m (λ v. IsEarliestIn v.state deadline)
