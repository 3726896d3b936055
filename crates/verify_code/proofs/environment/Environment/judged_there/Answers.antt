use Rattle.verify_code.proofs.environment.Environment.judged_there.Goals as goal

pub judged_over-requires : goal.judged_over-requires
judged_over-requires g c = c.requires c.in-Some.s c.in-Some.is
