use Rattle.std.proofs.Common.{ap, subst, sym, ◌∙◌}
use Rattle.continuation.specs.Continuation.{Continuation}
use Rattle.carrier_turns.specs.Steps.{MayGoOn}
use Rattle.carrier_turns.proofs.StepLaws.{same_kept}
use Rattle.carrier_turns.proofs.TimedTurnLaws.{clock_failed, clock_made, read_goes, read_turn, tick_fails, tick_fails_fits}
use Rattle.carrier_turns.proofs.turns.turn_with_clock.Goals as goal

pub returns-then-is_err-clause-fits : goal.returns-then-is_err-clause-fits
returns-then-is_err-clause-fits c =
    tick_fails_fits c.args.machine.now c.clock.new.self c.fail.new.self c.args.carrier c.args.hand.now c.requires.may
    (clock_failed c.clock.result _ c.clock.ensures.err (sym c.is_err.ensures.value ∙ c.if-is_err.true)) c.fail.ensures

pub returns-then-is_err-clause-turn : goal.returns-then-is_err-clause-turn
returns-then-is_err-clause-turn c =
    tick_fails c.args.machine.now c.clock.new.self c.fail.new.self c.args.carrier c.args.now c.args.hand.now c.requires.may
    (clock_failed c.clock.result _ c.clock.ensures.err (sym c.is_err.ensures.value ∙ c.if-is_err.true)) c.fail.ensures

pub step_on-requires : goal.step_on-requires
step_on-requires c = record {
  may =
      let made = sym c.is_err.ensures.value ∙ c.if-is_err.false in
      let r = c.requires.reads in
      subst (MayGoOn c.clock.new.self c.args.carrier c.args.hand.now)
      (ap (λ (k : Continuation). k.thread) (same_kept r.kept c.in-Some.mounted (sym r.mounted ∙ c.in-Some.is)) ∙ sym c.thread-thread.ensures)
      (read_goes c.args.machine.now c.clock.new.self c.args.carrier c.args.now c.args.hand.now c.requires.may c.requires.spare r c.requires.later
      (clock_made c.clock.result _ c.clock.ensures.entry made) (clock_made c.clock.result _ c.clock.ensures.goes_on made) c.is_legal.ensures);
}

pub returns-clause-turn : goal.returns-clause-turn
returns-clause-turn c =
    let made = sym c.is_err.ensures.value ∙ c.if-is_err.false in
    read_turn c.args.machine.now c.clock.new.self c.args.carrier c.args.now c.args.hand.now c.requires.may c.requires.spare c.requires.reads c.requires.later
    (clock_made c.clock.result _ c.clock.ensures.entry made) (clock_made c.clock.result _ c.clock.ensures.goes_on made) c.is_legal.ensures
    c.step_on.new.machine c.step_on.new.hand c.in-Some-step_on.answer c.in-Some-step_on.ensures.act
