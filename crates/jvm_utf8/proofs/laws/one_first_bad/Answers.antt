use Rattle.std.proofs.Common.{sym, ◌∙◌}
use Rattle.jvm_utf8.specs.Text.{text}
use Rattle.jvm_utf8.proofs.TextLaws.{units_of_bad, units_of_text}
use Rattle.jvm_utf8.proofs.laws.one_first_bad.Goals as goal

pub returns-clause-one : goal.returns-clause-one
returns-clause-one c = λ bytes a b bad_a bad_b. let both = sym (units_of_bad bytes a bad_a) ∙ units_of_bad bytes b bad_b in cc

pub returns-clause-no_text : goal.returns-clause-no_text
returns-clause-no_text c = λ units at fit bad. let both = sym (units_of_text units fit) ∙ units_of_bad (text units) at bad in cc
