use Rattle.jvm_utf8.proofs.TextLaws.{gives_found, gives_only, first_bad}
use Rattle.jvm_utf8.proofs.decoder.decode_counted.Goals as goal

pub returns-clause-found : goal.returns-clause-found
returns-clause-found g c = gives_found (λ v. v.items) c.units_of.result _ c.units_of.ensures.value

pub returns-clause-only : goal.returns-clause-only
returns-clause-only g c = λ units fit e. gives_only (λ v. v.items) c.units_of.result _ units c.units_of.ensures.value c.units_of.ensures.offset fit e

pub returns-clause-bad : goal.returns-clause-bad
returns-clause-bad g c = λ at e. first_bad _ at (c.units_of.ensures.offset at e)
