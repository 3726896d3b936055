use Rattle.std.proofs.Common.{ap, subst, ◌∙◌}
use Rattle.std.specs.Prelude.{IfSome}
use Rattle.link_model.specs.Resolutions.{meanings}
use Rattle.verify_types.specs.Environment.{Environment, map_at}
use Rattle.verify_frames.specs.KnownStates.{type_state}
use Rattle.verify_frames.proofs.ItselfLaws.{LocalsThemselves, map_itself}
use Rattle.verify_frames.proofs.KnownStateLaws.{over_some}
use Rattle.verify_code.proofs.environment.Environment.shared.Goals as goal

pub returns-in-Some : goal.returns-in-Some
returns-in-Some g c =
    let m = c.self.inside.method in
    let like = c.in-Some.like in
    let themselves =
    subst (λ (env : Environment). IfSome (map_at env like.pc) (LocalsThemselves env.world)) c.self.view_is
    (map_itself (g.L.Lookups.world c.self.inside.world.now) m.info.now m.code.now (meanings m.resolutions) m.catches.now like.pc) in
    over_some c.args.self.now c.self.inside.frames c.args.s.now.like like c.args.pc (type_state c.args.s.now) c.shared.result
    (c.self.invariant.are ∙ ap (λ (env : Environment). env.map) c.self.view_is) themselves c.requires.like c.in-Some.is c.shared.ensures
