use Rattle.std.proofs.Common.{[], ◌∷◌, length}
use Rattle.class_grammar.specs.Names.{begins_with}
use Rattle.class_checks.proofs.NameLaws.{roles_cost}
use Rattle.class_checks.proofs.text_roles.text_roles.Goals as goal

pub returns-clause-cost : goal.returns-clause-cost
returns-clause-cost g c =
    let method = c.is_method_text-is_method in
    let field = c.is_field_text-is_field in
    let names = c.names_beside-names in
    let string = c.is_string_text-is_string in
    roles_cost (length c.args.units.now) c.args.steps.now method.new.steps field.new.steps names.new.steps string.new.steps (begins_with (40 ∷ []) c.args.units.now) c.is_class_descriptor-is_class.result
    method.ensures.cost method.ensures.none field.ensures.cost field.ensures.none names.ensures.cost names.ensures.none string.ensures.cost string.ensures.none
