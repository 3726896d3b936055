use Rattle.verify_frames.specs.KnownStates.{FitsBut}
use Rattle.verify_code.proofs.EnvironmentLaws.{behind_all, first_all}
use Rattle.verify_code.proofs.environment.Environment.among.Goals as goal

pub loop-other-preserved : goal.loop-other-preserved
loop-other-preserved g c = λ s slots all.
    behind_all (FitsBut c.args.self.now slots s) c.loop-other.rest.now c.in-Some.behind.now c.in-Some.other.now c.in-Some.ensures.cases.0 (c.loop-other.invariant s slots all)

pub returns-then-is_some : goal.returns-then-is_some
returns-then-is_some g c = λ s slots all.
    first_all (FitsBut c.args.self.now slots s) c.loop-other.rest.now c.in-Some.behind.now c.in-Some.other.now c.in-Some.ensures.cases.0 (c.loop-other.invariant s slots all)
