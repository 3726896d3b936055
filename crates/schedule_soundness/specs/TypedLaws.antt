-- The frames of every thread keep to the typing, after every legal history.
use Rattle.std.specs.Prelude.{◌≡◌, ℕ, List, Some}
use Rattle.history.specs.declared.entry.Entry.{Entry}
use Rattle.link_rules.specs.Program.{Program}
use Rattle.link_rules.specs.Faults.{Links}
use Rattle.link_model.specs.Worlds.{world_of}
use Rattle.verify_types.specs.Typing.{AreTyped}
use Rattle.state_model.specs.Frames.{Frame}
use Rattle.schedule_model.specs.Run.{Scheduled, schedule_of}
use Rattle.ref_model.specs.declared.limits.Limits.{Limits}
use Rattle.ref_model.specs.Setting.{Setting}
use Rattle.ref_model.specs.State.{State, frames_at}
use Rattle.ref_model.specs.Opening.{opening}
use Rattle.ref_model.specs.Looks.{machine_from}
use Rattle.frame_soundness.specs.Typed.{Typed}
use Rattle.frame_soundness.specs.TypedStates.{IsTypedState}
use Rattle.frame_soundness.specs.StepKinds.{IsLinkedWorld}
use Rattle.step_soundness.specs.OpeningLaws.{IsMain, IsOpening}
use Rattle.step_soundness.specs.Resolutions.{RunsFit}
use Rattle.link_soundness.specs.Library.{HasLibrary}
use Rattle.link_soundness.specs.Names.{AreNamed}

-- What linking and typing give a program, and what it begins with.
pub record IsTypedProgram (p : Setting) : Type 0 where
  pub linked : IsLinkedWorld p.world
  pub begins : IsOpening p
  -- each instruction names what its steps ask for
  pub named : AreNamed p.world
  -- the run of a Thread object takes nothing, and is a method of objects
  pub runs : RunsFit p.world

-- After a legal history the state keeps to the typing, ..
abbrev pub HistoriesAreTyped : Type 0
HistoriesAreTyped = (p : Setting) (first : State) (carriers : ℕ) (history : List Entry) (v : Scheduled State) → IsTypedProgram p →
    opening p ≡ Some first → schedule_of (machine_from p first) carriers history ≡ Some v → IsTypedState p.world v.state

-- .. and so do the frames of each thread that runs (JVMS 4.10.1.6).
abbrev pub FramesAreTyped : Type 0
FramesAreTyped = (p : Setting) (first : State) (carriers : ℕ) (history : List Entry) (v : Scheduled State) (t : ℕ) (frames : List Frame) →
    IsTypedProgram p → opening p ≡ Some first → schedule_of (machine_from p first) carriers history ≡ Some v →
    frames_at v.state t ≡ Some frames → Typed p.world frames

-- A program that links, with the built-in classes, and whose methods are typed, is such.
abbrev pub LinkedProgramsAreSuch : Type 0
LinkedProgramsAreSuch = (program : Program) (main : ℕ) (limits : Limits) → Links program → HasLibrary program → AreTyped (world_of program) →
    IsMain (world_of program) main → IsTypedProgram (record { world = world_of program; main = main; limits = limits })
