use Rattle.std.proofs.Common.{ap, ◌∙◌, length}
use Rattle.link_rules.specs.Program.{Program}
use Rattle.link_rules.specs.Hierarchy.{is_among, supers}
use Rattle.link_resolution.specs.Tables.{row_at}
use Rattle.link_resolution.proofs.TableLaws.{row-tabulate}
use Rattle.link_resolution.proofs.HierarchyLaws.{no_supers}
use Rattle.link_resolution.proofs.hierarchy.Hierarchy.is_below.Goals as goal

pub returns : goal.returns
returns c =
    c.is_above_in.ensures ∙ ap (λ rows. is_among (row_at rows c.args.class) c.args.other) (c.deref.ensures.value ∙ c.self.invariant.supers)
    ∙ ap (λ row. is_among row c.args.other) (row-tabulate (supers c.self.inside.classes) (length c.self.inside.classes.classes) (no_supers c.self.inside.classes) c.args.class)
    ∙ ap (λ (p : Program). is_among (supers p c.args.class) c.args.other) c.self.view_is
