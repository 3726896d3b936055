use Rattle.descriptors.proofs.StateLaws.{field_decides, method_decides}
use Rattle.descriptors.proofs.laws.tests_decide.Goals as goal

pub returns-clause-field : goal.returns-clause-field
returns-clause-field c = λ units. field_decides units

pub returns-clause-method : goal.returns-clause-method
returns-clause-method c = λ units. method_decides units
