use Rattle.verify_code.proofs.environment.Environment.state_there.Goals as goal

pub shared-requires : goal.shared-requires
shared-requires g c = c.requires.holds c.in-Some.s c.in-Some.is
