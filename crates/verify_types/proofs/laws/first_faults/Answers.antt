use Rattle.verify_types.specs.Faults.{world_faults}
use Rattle.items.proofs.FirstLaws.{first_found, found_first, first_none, none_first}
use Rattle.verify_types.proofs.AcceptanceLaws.{world_faultless}
use Rattle.verify_types.proofs.TypingLaws.{world_accepted}
use Rattle.verify_types.proofs.laws.first_faults.Goals as goal

pub returns-clause-first : goal.returns-clause-first
returns-clause-first c = λ w f. (first_found (world_faults w) f, found_first (world_faults w) f)

pub returns-clause-none : goal.returns-clause-none
returns-clause-none c = λ w. (first_none (world_faults w), none_first (world_faults w))

pub returns-clause-rules : goal.returns-clause-rules
returns-clause-rules c = λ w decoded. (world_accepted w decoded, world_faultless w)
