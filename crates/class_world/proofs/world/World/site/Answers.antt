use Rattle.std.proofs.Common.{ap, ◌∙◌}
use Rattle.link_model.specs.World.{World}
use Rattle.link_model.specs.LookUps.{site}
use Rattle.class_world.proofs.world.World.site.Goals as goal

pub returns : goal.returns
returns c = c.site.ensures ∙ ap (λ (w : World). site w c.args.method c.args.pc) c.tables.ensures
