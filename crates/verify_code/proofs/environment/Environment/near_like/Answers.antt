use Rattle.std.proofs.Common.{ap, ◌∙◌}
use Rattle.verify_types.specs.Environment.{Environment}
use Rattle.verify_frames.proofs.NearLaws.{may_near, some_of}
use Rattle.verify_code.proofs.environment.Environment.near_like.Goals as goal

pub returns-in-Some-found : goal.returns-in-Some-found
returns-in-Some-found g c = λ s h.
    may_near c.args.self.now c.self.inside.frames c.args.like c.in-Some.like c.in-Some-found.near c.args.pc s
    (c.self.invariant.are ∙ ap (λ (env : Environment). env.map) c.self.view_is) c.in-Some.is (some_of c.in_ok-found.found c.in-Some-found.near _ c.in-Some-found.is c.in_ok-found.ensures) h
