-- The classes of which the opening heap has objects are there (JVMS 5.2, JLS 12.1.4).
use Rattle.std.specs.Prelude.{◌≡◌, ℕ, List, Some, codes}
use Rattle.link_rules.specs.Program.{Program}
use Rattle.link_rules.specs.Faults.{Links}
use Rattle.link_model.specs.World.{World, name_number}
use Rattle.link_model.specs.Worlds.{world_of}
use Rattle.ref_model.specs.Opening.{words_class}
use Rattle.step_soundness.specs.OpeningLaws.{IsMain}
use Rattle.link_soundness.specs.Library.{HasLibrary}

abbrev pub HasName : World → List ℕ → Type 0
HasName w name = (n : ℕ) × (name_number w name ≡ Some n)

pub record HasOpeningClasses (w : World) : Type 0 where
  pub error : HasName w (codes "java/lang/OutOfMemoryError")
  pub stream : HasName w (codes "java/io/PrintStream")
  pub thread : HasName w (codes "java/lang/Thread")
  pub state : HasName w (codes "java/lang/Thread$State")
  -- String[], since main takes one
  pub words : (n : ℕ) × (words_class w ≡ Some n)

abbrev pub LinkedClassesOpen : Type 0
LinkedClassesOpen = (p : Program) (main : ℕ) → Links p → HasLibrary p → IsMain (world_of p) main → HasOpeningClasses (world_of p)
