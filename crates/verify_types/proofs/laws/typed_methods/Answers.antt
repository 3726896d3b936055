use Rattle.verify_types.proofs.TypingLaws.{world_typed}
use Rattle.verify_types.proofs.laws.typed_methods.Goals as goal

pub returns : goal.returns
returns c = λ w decoded typed. world_typed w decoded typed
