use Rattle.gen_load.proofs.Making.{load_made, turn_made}
use Rattle.gen_load.proofs.laws.lines_fit.Goals as goal

pub returns : goal.returns
returns c = record { load = load_made; turn = turn_made }
