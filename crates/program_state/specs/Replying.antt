-- Replies after which the frames stay as they are.
use Rattle.std.specs.Prelude.{◌≡◌, ℕ, Bool, true, List}
use Rattle.vthread_state.specs.declared.phase.Phase.{Phase}
use Rattle.vthread_state.specs.declared.phase.Phase.TheVariants.{Run}
use Rattle.vthread_state.specs.declared.thread.Status.TheVariants.{Live}
use Rattle.vthread_state.specs.Threads as table
use Rattle.vthread_state.specs.Threads.{Threads}
use Rattle.state_model.specs.Frames.{Frame}
use Rattle.link_model.specs.World.{World}
use Rattle.ref_model.specs.Throwing.{raised}
use Rattle.ref_model.specs.declared.exception.Exception.{Exception}
use Rattle.schedule_soundness.specs.PutLaws.{OthersStay}
use Rattle.program_state.specs.declared.state.ProgramState.{ProgramState}
use Rattle.program_state.specs.States.{IsInPhase, IsState, is_plain_phase}
use Rattle.program_state.specs.Steps.{Leads}
use Rattle.ref_model.specs.State.{State, with_status}

-- The machine throws an exception in thread t, which runs.
abbrev pub IsRaised : World → Exception → ℕ → ProgramState → ProgramState → Type 0
IsRaised w e t old new = (r : State) (out : ℕ → Bool) (frames : List Frame) → IsState old r out → out t ≡ true →
    IsInPhase r t Run frames → Leads (λ s. raised w s t e) (OthersStay t) new t frames r out

-- Thread t, which runs, waits in a phase.
abbrev pub BeginsWait : ℕ → Phase → ProgramState → ProgramState → Type 0
BeginsWait t phase old new = (r : State) (out : ℕ → Bool) (frames : List Frame) → IsState old r out → out t ≡ true →
    IsInPhase r t Run frames → IsState new (with_status r t (Live phase)) out

-- A live thread waits in this phase, which isn't one of monitors.
pub record IsWaiting (t : ℕ) (phase : Phase) (old new : Threads) : Type 0 where
  pub plain : is_plain_phase phase ≡ true
  pub threads : new ≡ table.with_status old t (Live phase)
