-- Frames that hold a monitor are left by a return or an exception, where their thread has left the monitor (JVMS 2.11.10).
use Rattle.std.specs.Prelude.{◌≡◌, ℕ, Bool, true, List, ◌∷◌, Option}
use Rattle.items.specs.Options.{◌>>=◌}
use Rattle.opcodes.specs.declared.op.ValueKind.{ValueKind}
use Rattle.vthread_state.specs.declared.phase.Phase.TheVariants.{Run, Throwing}
use Rattle.link_model.specs.World.{World}
use Rattle.state_model.specs.Frames.{Frame}
use Rattle.ref_model.specs.declared.exception.Exception.TheVariants as exceptions
use Rattle.ref_model.specs.State.{State}
use Rattle.ref_model.specs.Step.{frame_returned}
use Rattle.ref_model.specs.Throwing.{exception_made, frame_dropped, thrown_below}
use Rattle.schedule_soundness.specs.PutLaws.{OthersStay}
use Rattle.program_state.specs.declared.state.ProgramState.{ProgramState}
use Rattle.program_state.specs.States.{IsInPhase, IsState}
use Rattle.program_state.specs.Steps.{Leads}

-- Thread t, which runs and has left the monitor of its top frame, returned from that.
abbrev pub ReturnLeads : World → Option ValueKind → ℕ → ProgramState → List Frame → ProgramState → List Frame → Type 0
ReturnLeads w kind t old before new after = (r : State) (out : ℕ → Bool) (f : Frame) (below : List Frame) → IsState old r out → out t ≡ true →
    IsInPhase r t Run before → before ≡ f ∷ below → Leads (λ s. frame_returned w s t kind f below) (OthersStay t) new t after r out

-- Thread t, which throws object o of a class and has left the monitor of its top frame, left that frame.
abbrev pub DropLeads : World → ℕ → ℕ → ℕ → ProgramState → List Frame → ProgramState → List Frame → Type 0
DropLeads w o class t old before new after = (r : State) (out : ℕ → Bool) (f : Frame) (below : List Frame) → IsState old r out → out t ≡ true →
    IsInPhase r t (Throwing o) before → before ≡ f ∷ below → Leads (λ s. frame_dropped w s t class f below) (OthersStay t) new t after r out

-- IllegalMonitorStateException took the place of what it threw, and left the frame.
abbrev pub UnownedLeads : World → ℕ → ℕ → ProgramState → List Frame → ProgramState → List Frame → Type 0
UnownedLeads w o t old before new after = (r : State) (out : ℕ → Bool) (f : Frame) (below : List Frame) → IsState old r out → out t ≡ true →
    IsInPhase r t (Throwing o) before → before ≡ f ∷ below →
    Leads (λ s. exception_made w s.memory exceptions.IllegalMonitorStateException >>= thrown_below w s t f below) (OthersStay t) new t after r out
