use Rattle.std.proofs.Common.{List, ap, sym, ◌∙◌}
use Rattle.class_model.specs.declared.attribute.Attribute.{Attribute}
use Rattle.items.specs.First.{first_in}
use Rattle.link_rules.specs.Faults.{attribute_faults}
use Rattle.link_checks.specs.Firsts.{attribute_why}
use Rattle.items.proofs.FirstLaws.{first_flat}
use Rattle.link_checks.proofs.code.method_code_fault.Goals as goal

pub returns-clause-fault : goal.returns-clause-fault
returns-clause-fault c =
    let n = c.args.namer in
    c.in_ok-fault.ensures.fault ∙ ap (λ (xs : List Attribute). first_in (attribute_why n.world.now n.class n.pool.now) xs) c.deref.ensures
    ∙ sym (first_flat (attribute_faults n.world.now n.class n.pool.now) c.args.method.now.attributes)
