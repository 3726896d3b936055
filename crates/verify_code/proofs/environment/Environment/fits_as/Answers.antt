use Rattle.std.proofs.Common.{List, true, ap, ◌∙◌}
use Rattle.std.specs.Option.{option_map_or}
use Rattle.stack_maps.specs.declared.types.VType.{VType}
use Rattle.verify_types.specs.Environment.{Environment, map_at}
use Rattle.verify_types.specs.Handlers.{fits_frame}
use Rattle.verify_types.specs.TypeStates.{with_stack}
use Rattle.verify_frames.specs.KnownStates.{type_state}
use Rattle.verify_frames.proofs.KnownStateLaws.{compared_to, fits_compared}
use Rattle.verify_code.proofs.environment.Environment.fits_as.Goals as goal

pub returns-in-Some : goal.returns-in-Some
returns-in-Some g c =
    let env = c.args.self.now in
    let s = type_state c.args.s.now in
    c.fits_stack.ensures
    ∙ fits_compared env (g.L.Lookups.world c.self.inside.world.now) s c.args.pc c.in-Some.frame c.stack.result.now true true (ap (λ (e : Environment). e.world) c.self.view_is)
    (compared_to env s c.args.pc c.fitted.result c.in-Some.frame (c.fitted.ensures s c.requires.fitted) c.in-Some.is)
    ∙ ap (λ (st : List VType). option_map_or (fits_frame env (with_stack s st)) (map_at env c.args.pc) true) c.stack.ensures
