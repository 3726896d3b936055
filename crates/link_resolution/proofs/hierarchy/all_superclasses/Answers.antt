use Rattle.std.proofs.Common.{◌≡◌, ℕ, ◌++◌, [], ◌∷◌, Option, sym, ap, ◌∙◌, arith}
use Rattle.link_rules.specs.Hierarchy.{climb, parent_of, superclasses}
use Rattle.link_resolution.specs.Tables.{tabulate}
use Rattle.link_resolution.proofs.TableLaws.{tabulate_more}
use Rattle.link_resolution.proofs.HierarchyLaws.{parents_are, superclasses_here}
use Rattle.link_resolution.proofs.hierarchy.all_superclasses.Goals as goal

pub loop-c-preserved : goal.loop-c-preserved
loop-c-preserved c =
    let p = c.args.classes.now in
    let row : c.in_ok-climb.field-0 ≡ superclasses p c.loop-c.c =
    c.in_ok-climb.ensures ∙ ap (λ (f : ℕ → Option ℕ). climb f c.count.result c.loop-c.c) (parents_are p c.args.parents.now c.requires)
    ∙ ap (λ n. climb (parent_of p) n c.loop-c.c) c.count.ensures ∙ sym (superclasses_here p c.loop-c.c (omega arith)) in
    c.in_ok-push.ensures.items ∙ ap (λ xs. xs ++ c.in_ok-climb.field-0 ∷ []) c.loop-c.invariant ∙ ap (λ x. tabulate (superclasses p) c.loop-c.c ++ x ∷ []) row ∙ sym (tabulate_more (superclasses p) c.loop-c.c)
