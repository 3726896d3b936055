-- The thread that a carrier steps: its phase, its frames, and its instruction.
use Rattle.std.specs.Prelude.{◌≡◌, ℕ, Bool, true, false, List, Option, Some, None}
use Rattle.vthread_state.specs.declared.phase.Phase.{Phase}
use Rattle.vthread_state.specs.declared.phase.Phase.TheVariants.{Run, Entering, Reenter, Parked, Asleep, Joining}
use Rattle.vthread_state.specs.Threads.{phase_at}
use Rattle.link_model.specs.World.{World}
use Rattle.state_model.specs.Frames.{Frame}
use Rattle.frame_soundness.specs.TypedStates.{AreOfPhase}
use Rattle.interp_local.specs.declared.fetched.Fetched.{Fetched}
use Rattle.interp_local.specs.Fetched.{IsTopAt}
use Rattle.program_state.specs.declared.state.ProgramState.{ProgramState}

-- the thread is live, in this phase
abbrev pub IsAt : ProgramState → ℕ → Phase → Type 0
IsAt state t phase = phase_at state.threads t ≡ Some phase

-- whether a thread in a phase waits for a permit, a time or the end of another thread
abbrev pub is_waiting : Phase → Bool
is_waiting (Parked deadline) = true
is_waiting (Asleep deadline) = true
is_waiting (Joining target deadline) = true
is_waiting phase = false

-- whether one is in line for a monitor
abbrev pub is_in_line : Phase → Bool
is_in_line (Entering o) = true
is_in_line (Reenter o count wake) = true
is_in_line phase = false

-- these frames are such as the thread's phase asks for
abbrev pub AreTyped : World → ProgramState → ℕ → List Frame → Type 0
AreTyped w state t frames = (phase : Phase) → IsAt state t phase → AreOfPhase w frames phase

-- the instruction at hand, where the thread runs, and there alone
abbrev pub HasNext : World → ProgramState → ℕ → List Frame → Option Fetched → Type 0
HasNext w state t frames (Some fetched) = IsAt state t Run × IsTopAt w frames fetched
HasNext w state t frames None = IsAt state t Run → ⊥
