use Rattle.history.proofs.TextLaws.{one_text}
use Rattle.history.proofs.laws.one_history.Goals as goal

pub returns : goal.returns
returns c = one_text
