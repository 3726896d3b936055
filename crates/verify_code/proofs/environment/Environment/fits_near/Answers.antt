use Rattle.std.proofs.Common.{List, ap, sym, ◌∙◌}
use Rattle.stack_maps.specs.declared.types.VType.{VType}
use Rattle.verify_types.specs.Environment.{Environment}
use Rattle.verify_frames.specs.declared.overwritten.Overwritten.{Overwritten}
use Rattle.verify_frames.specs.KnownStates.{FitsBut, FitsLocals, type_state}
use Rattle.verify_frames.specs.Overwrites.{are_assignable}
use Rattle.verify_frames.proofs.WantedLaws.{if_shown}
use Rattle.verify_frames.proofs.NearLaws.{fits_moved, some_of}
use Rattle.verify_code.proofs.MergedLaws.{if_true}
use Rattle.verify_code.proofs.environment.Environment.fits_near.Goals as goal

pub returns-in-Some : goal.returns-in-Some
returns-in-Some g c = λ h.
    let env = c.args.self.now in
    let w = g.L.Lookups.world c.self.inside.world.now in
    let s = type_state c.args.s.now in
    let whole : FitsBut env c.args.slots.now s c.args.other → FitsLocals env s c.args.other = λ but. if_shown c.fits_wholly.result _ c.if-not-fits_wholly.false (c.fits_wholly.ensures but) in
    if_true c.are_assignable.result (FitsLocals env s c.args.pc) (λ e.
    fits_moved env w c.self.inside.frames c.new-there.result c.in-Some.near c.args.other c.args.pc s
    (ap (λ (x : Environment). x.world) c.self.view_is) (c.self.invariant.are ∙ ap (λ (x : Environment). x.map) c.self.view_is)
    c.new-there.ensures.pc c.new-there.ensures.none (some_of c.in_ok-near.near c.in-Some.near _ c.in-Some.is c.in_ok-near.ensures) (whole h)
    (ap (λ (os : List Overwritten). are_assignable w os s.types.locals) (sym c.deref.ensures.value)
    ∙ ap (λ (ls : List VType). are_assignable w c.deref.result.now ls) (sym c.locals.ensures)
    ∙ sym c.are_assignable.ensures ∙ e))
