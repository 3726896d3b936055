use Rattle.std.proofs.Common.{ap, sym, ◌∙◌}
use Rattle.jvm_utf8.specs.Units.{units_of}
use Rattle.jvm_utf8.proofs.TextLaws.{units_of_text}
use Rattle.jvm_utf8.proofs.laws.one_text.Goals as goal

pub returns : goal.returns
returns c = λ a b fit_a fit_b e. let both = sym (units_of_text a fit_a) ∙ ap units_of e ∙ units_of_text b fit_b in cc
