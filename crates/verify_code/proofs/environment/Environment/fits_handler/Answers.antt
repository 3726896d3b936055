use Rattle.std.proofs.Common.{[], ◌∷◌, false, ap, ◌∙◌}
use Rattle.verify_types.specs.Environment.{Environment}
use Rattle.verify_frames.specs.Overwrites.{overwritten_since}
use Rattle.verify_frames.specs.KnownStates.{type_state}
use Rattle.verify_frames.proofs.KnownStateLaws.{fits_over}
use Rattle.verify_code.proofs.environment.Environment.fits_handler.Goals as goal

pub returns-in-Some : goal.returns-in-Some
returns-in-Some g c =
    c.fits_stack.ensures
    ∙ fits_over c.args.self.now (g.L.Lookups.world c.self.inside.world.now) (overwritten_since c.args.s.now.like) (type_state c.args.s.now) c.args.pc c.in-Some.frame (c.args.caught ∷ []) c.fits_where_overwritten-locals_fit.result false
    (ap (λ (e : Environment). e.world) c.self.view_is) c.in-Some.ensures c.fits_where_overwritten-locals_fit.ensures
