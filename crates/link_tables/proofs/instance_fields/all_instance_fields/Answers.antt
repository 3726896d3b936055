use Rattle.std.proofs.Common.{◌≡◌, ℕ, List, [], ◌∷◌, ◌++◌, reverse, sym, ap, ◌∙◌}
use Rattle.std.specs.List.{flat_map}
use Rattle.link_rules.specs.Program.{Program}
use Rattle.link_rules.specs.Hierarchy.{superclasses}
use Rattle.link_resolution.specs.Tables.{tabulate}
use Rattle.link_resolution.proofs.TableLaws.{tabulate_more}
use Rattle.link_model.specs.InstanceFields.{own_fields, instance_fields}
use Rattle.link_tables.proofs.InstanceLaws.{rows_are}
use Rattle.link_tables.proofs.instance_fields.all_instance_fields.Goals as goal

pub loop-class-preserved : goal.loop-class-preserved
loop-class-preserved c =
    let p = c.args.members.now in
    let n = c.loop-class.class in
    let supers : c.superclasses.result.now ≡ superclasses p n = c.superclasses.ensures ∙ ap (λ (q : Program). superclasses q n) c.hierarchy-in-loop-class.ensures in
    let row : c.in_ok-joined_rows.field-0 ≡ instance_fields p n =
    c.in_ok-joined_rows.ensures
    ∙ ap (λ (f : ℕ → List ℕ). flat_map f (reverse c.superclasses.result.now)) (rows_are p c.deref.result.now (c.deref.ensures.value ∙ c.in_ok-own.ensures))
    ∙ ap (λ (cs : List ℕ). flat_map (own_fields p) (reverse cs)) supers in
    c.in_ok-push.ensures.items ∙ ap (λ xs. xs ++ c.in_ok-joined_rows.field-0 ∷ []) c.loop-class.invariant
    ∙ ap (λ x. tabulate (instance_fields p) n ++ x ∷ []) row ∙ sym (tabulate_more (instance_fields p) n)
