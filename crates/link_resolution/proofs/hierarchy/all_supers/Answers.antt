use Rattle.std.proofs.Common.{◌≡◌, ℕ, ◌++◌, List, [], ◌∷◌, sym, ap, ◌∙◌, arith}
use Rattle.link_rules.specs.Hierarchy.{visit, supers, directs}
use Rattle.link_resolution.specs.Tables.{tabulate}
use Rattle.link_resolution.proofs.TableLaws.{tabulate_more}
use Rattle.link_resolution.proofs.HierarchyLaws.{above_is, supers_here}
use Rattle.link_resolution.proofs.hierarchy.all_supers.Goals as goal

pub loop-c-preserved : goal.loop-c-preserved
loop-c-preserved c =
    let p = c.args.classes.now in
    let d = c.in_ok-directs in
    let row : c.in_ok-visit.field-0 ≡ supers p c.loop-c.c =
    c.in_ok-visit.ensures ∙ ap (λ (f : ℕ → List ℕ). visit f d.directs.visits (c.loop-c.c ∷ []) []) (above_is p c.deref.result.now (c.deref.ensures.value ∙ d.ensures.stacked))
    ∙ ap (λ n. visit (directs p) n (c.loop-c.c ∷ []) []) d.ensures.visits ∙ sym (supers_here p c.loop-c.c (omega arith)) in
    c.in_ok-push.ensures.items ∙ ap (λ xs. xs ++ c.in_ok-visit.field-0 ∷ []) c.loop-c.invariant ∙ ap (λ x. tabulate (supers p) c.loop-c.c ++ x ∷ []) row ∙ sym (tabulate_more (supers p) c.loop-c.c)
