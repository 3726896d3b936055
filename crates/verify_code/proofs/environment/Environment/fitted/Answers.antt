use Rattle.std.proofs.Common.{ap, ◌∙◌}
use Rattle.verify_types.specs.Environment.{Environment}
use Rattle.verify_frames.proofs.KnownStateLaws.{compares_some}
use Rattle.verify_code.proofs.environment.Environment.fitted.Goals as goal

pub returns-in-Some : goal.returns-in-Some
returns-in-Some g c = λ s may.
    compares_some c.args.self.now c.self.inside.frames c.args.fitted c.in-Some.other c.args.pc s c.shared.result
    (c.self.invariant.are ∙ ap (λ (env : Environment). env.map) c.self.view_is) may c.in-Some.is c.shared.ensures
