use Rattle.class_checks.proofs.NameLaws.{no_name}
use Rattle.class_checks.proofs.text_roles.names_beside.Goals as goal

pub returns-then-is_class-clause-names : goal.returns-then-is_class-clause-names
returns-then-is_class-clause-names g c = no_name c.args.is_class c.args.units.now c.requires c.if-is_class.true
