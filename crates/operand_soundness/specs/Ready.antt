-- What is known of a world when its program runs.
use Rattle.link_model.specs.World.{World}
use Rattle.frame_soundness.specs.StepKinds.{IsLinkedWorld}
use Rattle.link_soundness.specs.Names.{AreNamed}
use Rattle.step_soundness.specs.Resolutions.{RunsFit}

-- It keeps to the typing, and its instructions name what their steps ask for.
pub record IsReady (w : World) : Type 0 where
  pub linked : IsLinkedWorld w
  pub named : AreNamed w
  pub runs : RunsFit w
