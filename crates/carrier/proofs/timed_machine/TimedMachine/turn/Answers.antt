use Rattle.std.proofs.Common.{sym, ◌∙◌, subst}
use Rattle.machine.specs.Legal.{IsLegal}
use Rattle.carrier.specs.Runs.{IsTimed}
use Rattle.carrier.proofs.TimeLaws.{given_at, timed_after}
use Rattle.carrier.proofs.timed_machine.TimedMachine.turn.Goals as goal

pub invariant_of-self : goal.invariant_of-self
invariant_of-self g c =
    let gives = g.C.Clock.gives c.self.inside.clock.now in
    timed_after gives c.deref_mut.result.now c.turn.new.machine c.args.carrier c.args.now c.args.hand.now c.turn.new.hand c.turn.result
    (subst IsLegal (c.deref.ensures ∙ sym c.deref_mut.ensures.value) c.is_legal.ensures) c.turn.ensures.turn c.turn.ensures.ended
    (subst (IsTimed gives) (sym c.deref_mut.ensures.value) c.self.invariant) (given_at g.C.Clock.gives _ _ c.args.now c.self.view_is c.requires.given)
