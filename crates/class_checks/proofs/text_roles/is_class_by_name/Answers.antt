use Rattle.std.proofs.Common.{ap}
use Rattle.class_checks.specs.declared.names.Names.{Names}
use Rattle.class_checks.proofs.NameLaws.{class_text}
use Rattle.class_checks.proofs.text_roles.is_class_by_name.Goals as goal

pub returns-clause-test : goal.returns-clause-test
returns-clause-test g c = class_text c.args.units.now _ c.requires.begins c.requires.ends (ap (λ (n : Names). n.of_class) c.names_by_units.ensures.names)
