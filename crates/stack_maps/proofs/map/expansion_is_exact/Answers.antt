use Rattle.stack_maps.proofs.MapLaws.{expansion_takes, expansion_again}
use Rattle.stack_maps.proofs.map.expansion_is_exact.Goals as goal

pub returns : goal.returns
returns c = λ first bytes whole fits. (expansion_takes first bytes whole fits, expansion_again first bytes whole)
