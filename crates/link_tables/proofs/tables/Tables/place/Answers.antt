use Rattle.std.proofs.Common.{ℕ, None, get_or, ap, ◌∙◌, refl}
use Rattle.link_model.specs.World.{World}
use Rattle.link_model.specs.Fields.{place}
use Rattle.link_resolution.specs.Tables.{row_at}
use Rattle.link_tables.specs.Tables.{world_in}
use Rattle.link_tables.proofs.InstanceLaws.{fields_are}
use Rattle.link_tables.proofs.OwnFieldLaws.{instance_are, place_is}
use Rattle.link_tables.proofs.tables.Tables.place.Goals as goal

pub returns : goal.returns
returns c =
    let a = c.self.inside in
    let w = world_in a in
    c.place_at.ensures ∙ ap (λ xs. get_or xs c.args.field None) c.deref.ensures.value ∙ c.self.invariant.places c.args.field
    ∙ place_is w (row_at a.member_tables.instance_fields.items) c.args.field
    (λ (n : ℕ). fields_are a.members a.member_tables.instance_fields.items n c.self.invariant.instance_fields ∙ instance_are a.members w n c.self.invariant.fields refl)
    ∙ ap (λ (v : World). place v c.args.field) c.self.view_is
