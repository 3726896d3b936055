use Rattle.verify_frames.specs.KnownStates.{FitsBut, type_state}
use Rattle.verify_code.proofs.EnvironmentLaws.{behind_all}
use Rattle.verify_code.proofs.environment.Environment.fits_near_one.Goals as goal

pub loop-other-preserved : goal.loop-other-preserved
loop-other-preserved g c = λ all.
    behind_all (FitsBut c.args.self.now c.args.fitted.now.changed.items (type_state c.args.s.now)) c.loop-other.rest.now c.in-Some.behind.now c.in-Some.other.now c.in-Some.ensures.cases.0 (c.loop-other.invariant all)
