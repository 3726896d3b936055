use Rattle.items.proofs.FirstLaws.{first_found, found_first, first_none, none_first}
use Rattle.link_rules.specs.Faults.{link_faults}
use Rattle.link_rules.proofs.laws.first_faults.Goals as goal

pub returns-clause-first : goal.returns-clause-first
returns-clause-first c = λ p f. (first_found (link_faults p) f, found_first (link_faults p) f)

pub returns-clause-none : goal.returns-clause-none
returns-clause-none c = λ p. (first_none (link_faults p), none_first (link_faults p))
