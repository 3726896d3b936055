use Rattle.std.proofs.Common.{subst}
use Rattle.link_model.specs.World.{World}
use Rattle.step_soundness.specs.OpeningLaws.{IsMain}
use Rattle.java_programs.proofs.tests.load.Goals as goal

pub returns-clause-main : goal.returns-clause-main
returns-clause-main c = subst (λ (w : World). IsMain w c.in_ok-main.main) c.world.ensures.world c.in_ok-main.ensures.main
