use Rattle.std.proofs.Common.{ap, ◌∙◌}
use Rattle.link_model.specs.World.{World}
use Rattle.link_model.specs.Fields.{instance_fields}
use Rattle.link_tables.specs.Tables.{world_in}
use Rattle.link_tables.proofs.InstanceLaws.{fields_are}
use Rattle.link_tables.proofs.OwnFieldLaws.{instance_are}
use Rattle.link_tables.proofs.tables.Tables.instance_fields.Goals as goal
use Rattle.std.proofs.Common.{refl}

pub returns : goal.returns
returns c =
    c.row_at.ensures ∙ fields_are c.self.inside.members c.deref.result.now c.args.class (c.deref.ensures.value ∙ c.self.invariant.instance_fields)
    ∙ instance_are c.self.inside.members (world_in c.self.inside) c.args.class c.self.invariant.fields refl
    ∙ ap (λ (w : World). instance_fields w c.args.class) c.self.view_is
