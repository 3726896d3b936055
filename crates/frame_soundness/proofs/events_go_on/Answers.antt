use Rattle.frame_soundness.proofs.EventProofs.{events_go_on}
use Rattle.frame_soundness.proofs.events_go_on.Goals as goal

pub returns : goal.returns
returns c = events_go_on
