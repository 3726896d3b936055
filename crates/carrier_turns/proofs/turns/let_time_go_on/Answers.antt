use Rattle.std.proofs.Common.{refl, subst, sym, ◌∙◌}
use Rattle.machine.specs.Machines.{Known}
use Rattle.carrier_turns.specs.Steps.{IsReached, gone_on}
use Rattle.carrier_turns.proofs.TimedTurnLaws.{awaits_before, clock_failed, clock_made, due_ends, looked_on, tick_ends_fits, tick_fails, tick_fails_fits}
use Rattle.carrier_turns.proofs.turns.let_time_go_on.Goals as goal

pub clock-requires-clause-later : goal.clock-requires-clause-later
clock-requires-clause-later c = awaits_before c.args.machine.now c.args.now c.requires.awaits

pub returns-then-is_err-clause-fits : goal.returns-then-is_err-clause-fits
returns-then-is_err-clause-fits c = λ ends.
    tick_fails_fits c.args.machine.now c.clock.new.self c.fail.new.self c.args.carrier c.args.hand.now c.requires.may
    (clock_failed c.clock.result _ c.clock.ensures.err (sym c.is_err.ensures.value ∙ c.if-is_err.true)) c.fail.ensures

pub returns-then-is_err-clause-over : goal.returns-then-is_err-clause-over
returns-then-is_err-clause-over c = λ ends.
    tick_fails c.args.machine.now c.clock.new.self c.fail.new.self c.args.carrier c.args.now c.args.hand.now c.requires.may
    (clock_failed c.clock.result _ c.clock.ensures.err (sym c.is_err.ensures.value ∙ c.if-is_err.true)) c.fail.ensures

pub returns-in-Over-clause-fits : goal.returns-in-Over-clause-fits
returns-in-Over-clause-fits c = λ ends.
    let made = sym c.is_err.ensures.value ∙ c.if-is_err.false in
    tick_ends_fits c.args.machine.now c.clock.new.self c.unless_stalled.new.machine c.args.carrier c.args.now c.args.hand.now c.unless_stalled.result c.requires.may
    (clock_made c.clock.result _ c.clock.ensures.entry made) c.is_legal.ensures c.unless_stalled.ensures

pub returns-in-Over-clause-over : goal.returns-in-Over-clause-over
returns-in-Over-clause-over c = λ ends.
    let made = sym c.is_err.ensures.value ∙ c.if-is_err.false in
    due_ends c.args.machine.now c.args.carrier c.args.now c.args.hand.now c.clock.new.self c.unless_stalled.new.machine c.unless_stalled.result c.requires.may c.requires.awaits
    (clock_made c.clock.result _ c.clock.ensures.entry made) c.is_legal.ensures c.unless_stalled.ensures c.in-Over.is

pub returns-clause-reached : goal.returns-clause-reached
returns-clause-reached c = λ goes.
    let made = sym c.is_err.ensures.value ∙ c.if-is_err.false in
    let look = looked_on c.clock.new.self c.unless_stalled.new.machine c.unless_stalled.result c.unless_stalled.ensures c.in_default.not-Over in
    subst (λ (m : Known). IsReached c.args.machine.now m c.args.carrier c.args.now 0) (sym look.0)
    (gone_on c.requires.awaits (clock_made c.clock.result _ c.clock.ensures.entry made) look.1 look.2 refl)
