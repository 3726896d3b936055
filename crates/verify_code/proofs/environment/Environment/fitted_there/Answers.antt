use Rattle.verify_code.proofs.environment.Environment.fitted_there.Goals as goal

pub fitted_over-requires : goal.fitted_over-requires
fitted_over-requires g c = c.requires c.in-Some.s c.in-Some.is
