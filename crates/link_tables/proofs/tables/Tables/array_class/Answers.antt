use Rattle.std.proofs.Common.{◌+◌, List, length, sym, ap, ◌∙◌}
use Rattle.std.specs.Prelude.{position}
use Rattle.std.specs.Option.{option_map}
use Rattle.link_model.specs.declared.sites.ArrayType.{ArrayType}
use Rattle.link_model.specs.LookUps.{array_class, same_type}
use Rattle.link_model.specs.World.{World}
use Rattle.link_tables.proofs.ArrayLaws.{number_is}
use Rattle.link_tables.proofs.tables.Tables.array_class.Goals as goal

pub returns : goal.returns
returns c =
    let n = c.self.inside.number_tables.numbers in
    c.type_number.ensures
    ∙ number_is (length n.names) n.depths c.args.wanted
    ∙ ap (λ (arrays : List ArrayType). option_map (λ place. length n.names + place) (position (λ other. same_type other c.args.wanted) arrays))
    (sym c.self.invariant.arrays)
    ∙ ap (λ (w : World). array_class w c.args.wanted) c.self.view_is
