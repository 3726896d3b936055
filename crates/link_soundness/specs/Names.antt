-- What linking gives the constant of each instruction of a program, for each object at hand (JVMS 5.4.3, 5.4.6, 6.5).
use Rattle.link_rules.specs.Program.{Program}
use Rattle.link_rules.specs.Faults.{Links}
use Rattle.link_model.specs.World.{World}
use Rattle.link_model.specs.Worlds.{world_of}
use Rattle.state_model.specs.Frames.{Frame}
use Rattle.ref_model.specs.Memory.{Memory}
use Rattle.frame_soundness.specs.StateKinds.{HasFieldKinds}
use Rattle.step_soundness.specs.Resolutions.{IsFrameResolution}
use Rattle.link_soundness.specs.Library.{HasLibrary}

-- each instruction names what a step asks for, in each memory
abbrev pub AreNamed : World → Type 0
AreNamed w = (r : Memory) (f : Frame) → IsFrameResolution w r f

-- of a program that links, with the built-in classes
abbrev pub LinkedCodeIsNamed : Type 0
LinkedCodeIsNamed = (p : Program) → Links p → HasLibrary p → AreNamed (world_of p)

-- The values of each field have a kind: no field of a program that links is of float or double.
abbrev pub LinkedFieldsHaveKinds : Type 0
LinkedFieldsHaveKinds = (p : Program) → Links p → HasFieldKinds (world_of p)
