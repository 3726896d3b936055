use Rattle.verify_frames.specs.KnownStates.{type_state}
use Rattle.verify_code.proofs.environment.Environment.near.Goals as goal

pub returns-clause-holds : goal.returns-clause-holds
returns-clause-holds g c = record { like = c.in_ok-like.ensures (type_state c.args.s) c.requires.like; judged = c.requires.judged; stored = c.requires.stored; fitted = c.requires.fitted }
