use Rattle.std.proofs.Common.{ap, subst, sym, ◌∙◌}
use Rattle.std.specs.Prelude.{IfSome, Some, map}
use Rattle.std.specs.List.{All}
use Rattle.verify_types.specs.Environment.{Environment}
use Rattle.verify_frames.specs.declared.wanted.Wanted.{Wanted}
use Rattle.verify_frames.specs.KnownStates.{type_state}
use Rattle.verify_frames.specs.Wanted.{IsAsked}
use Rattle.verify_code.specs.Accepted.{row_in}
use Rattle.verify_code.specs.Guards.{guard_in}
use Rattle.verify_code.specs.Merged.{AskSame}
use Rattle.verify_code.proofs.AcceptedLaws.{judged_accepted}
use Rattle.verify_code.proofs.environment.Environment.judged_by_wanted.Goals as goal

pub returns : goal.returns
returns g c =
    let x = c.self.inside in
    let gs = x.guards.items in
    let stored = c.get-stored.result.now in
    let asked = subst (λ (e : Environment). IfSome x.wanted (λ (y : Wanted). All (IsAsked e.map y) (map row_in gs))) c.self.view_is c.self.invariant.asked in
    judged_accepted c.args.self.now (g.L.Lookups.world x.world.now) gs x.wanted c.in-Some.wanted (type_state c.args.s.now) c.args.s.now.stored stored c.args.pc c.locals-locals.result.now
    (ap (λ (e : Environment). e.world) c.self.view_is)
    (subst (λ (e : Environment). AskSame e (map guard_in gs) e.handlers) c.self.view_is c.self.invariant.guarded)
    asked c.in-Some.is c.requires.holds.stored (c.in-Some-stored.is ∙ ap Some (sym c.get-stored.ensures)) (sym c.holds_at.ensures ∙ c.if-not-holds_at.false)
    c.locals-locals.ensures (sym c.accepts_written.ensures ∙ c.if-not-accepts_written.false)
