use Rattle.std.proofs.Common.{List, true, ap, ◌∙◌}
use Rattle.std.specs.Option.{option_map_or}
use Rattle.stack_maps.specs.declared.types.VType.{VType}
use Rattle.verify_types.specs.Environment.{Environment, map_at}
use Rattle.verify_types.specs.Handlers.{fits_frame}
use Rattle.verify_types.specs.TypeStates.{with_stack}
use Rattle.verify_frames.specs.Overwrites.{overwritten_since}
use Rattle.verify_frames.specs.KnownStates.{type_state}
use Rattle.verify_frames.proofs.KnownStateLaws.{fits_over}
use Rattle.verify_code.proofs.environment.Environment.fits_at.Goals as goal

pub returns-in-Some : goal.returns-in-Some
returns-in-Some g c =
    let env = c.args.self.now in
    let s = type_state c.args.s.now in
    c.fits_stack.ensures
    ∙ fits_over env (g.L.Lookups.world c.self.inside.world.now) (overwritten_since c.args.s.now.like) s c.args.pc c.in-Some.frame c.stack.result.now c.fits_where_overwritten-locals_fit.result true
    (ap (λ (e : Environment). e.world) c.self.view_is) c.in-Some.ensures c.fits_where_overwritten-locals_fit.ensures
    ∙ ap (λ (st : List VType). option_map_or (fits_frame env (with_stack s st)) (map_at env c.args.pc) true) c.stack.ensures
