use Rattle.descriptors.specs.Refusal.{IsField, IsMethod}
use Rattle.descriptors.proofs.FirstBad.{no_member, one_offset}
use Rattle.descriptors.proofs.laws.one_first_bad.Goals as goal

pub returns-clause-of_field : goal.returns-clause-of_field
returns-clause-of_field c = λ units a b f g. one_offset IsField units a b f g

pub returns-clause-of_method : goal.returns-clause-of_method
returns-clause-of_method c = λ units a b f g. one_offset IsMethod units a b f g

pub returns-clause-no_field : goal.returns-clause-no_field
returns-clause-no_field c = λ units at bad field. no_member IsField units at bad field

pub returns-clause-no_method : goal.returns-clause-no_method
returns-clause-no_method c = λ units at bad method. no_member IsMethod units at bad method
