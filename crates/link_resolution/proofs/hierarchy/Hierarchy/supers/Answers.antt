use Rattle.std.proofs.Common.{ap, ◌∙◌, length}
use Rattle.link_rules.specs.Program.{Program}
use Rattle.link_rules.specs.Hierarchy.{supers}
use Rattle.link_resolution.specs.Tables.{row_at}
use Rattle.link_resolution.proofs.TableLaws.{row-tabulate}
use Rattle.link_resolution.proofs.HierarchyLaws.{no_supers}
use Rattle.link_resolution.proofs.hierarchy.Hierarchy.supers.Goals as goal

pub returns : goal.returns
returns c =
    c.above_in.ensures ∙ ap (λ rows. row_at rows c.args.class) (c.deref.ensures.value ∙ c.self.invariant.supers)
    ∙ row-tabulate (supers c.self.inside.classes) (length c.self.inside.classes.classes) (no_supers c.self.inside.classes) c.args.class
    ∙ ap (λ (p : Program). supers p c.args.class) c.self.view_is
