use Rattle.std.proofs.Common.{ap, ◌∙◌, length}
use Rattle.link_rules.specs.Program.{Program}
use Rattle.link_rules.specs.Hierarchy.{parent_of}
use Rattle.link_resolution.specs.Tables.{parent_at}
use Rattle.link_resolution.proofs.TableLaws.{parent-tabulate}
use Rattle.link_resolution.proofs.HierarchyLaws.{no_parent}
use Rattle.link_resolution.proofs.hierarchy.Hierarchy.parent.Goals as goal

pub returns : goal.returns
returns c =
    c.parent_at.ensures ∙ ap (λ rows. parent_at rows c.args.class) (c.deref.ensures.value ∙ c.self.invariant.parents)
    ∙ parent-tabulate (parent_of c.self.inside.classes) (length c.self.inside.classes.classes) (no_parent c.self.inside.classes) c.args.class
    ∙ ap (λ (p : Program). parent_of p c.args.class) c.self.view_is
