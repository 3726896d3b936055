use Rattle.std.proofs.Common.{List, ap, subst, ◌∙◌}
use Rattle.stack_maps.specs.declared.types.VType.{VType}
use Rattle.verify_types.specs.Environment.{Environment}
use Rattle.verify_frames.specs.KnownStates.{type_state}
use Rattle.verify_frames.specs.Takes.{Takes}
use Rattle.verify_frames.proofs.KnownStateLaws.{fits_wholly}
use Rattle.verify_frames.proofs.WantedLaws.{if_shown}
use Rattle.verify_code.proofs.environment.Environment.fits_wholly.Goals as goal

pub returns : goal.returns
returns g c = λ but.
    let x = c.self.inside in
    let w = g.L.Lookups.world x.world.now in
    fits_wholly c.args.self.now w x.frames c.args.slots.now (type_state c.args.s.now) c.args.pc (ap (λ (e : Environment). e.world) c.self.view_is)
    (c.self.invariant.are ∙ ap (λ (e : Environment). e.map) c.self.view_is)
    (subst (λ (ls : List VType). Takes w x.frames c.args.pc ls c.args.slots.now) c.locals.ensures (if_shown c.takes.result _ c.if-not-takes.false c.takes.ensures))
    but
