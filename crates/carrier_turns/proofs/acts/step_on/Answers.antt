use Rattle.std.proofs.Common.{refl, sym, ◌∙◌}
use Rattle.machine.specs.declared.after.After.TheVariants.{Goes}
use Rattle.carrier_turns.proofs.ActLaws.{goes_may, goes_on_fits, gone_at, runs_going, runs_so, runs_too}
use Rattle.carrier_turns.proofs.StepLaws.{goes_made, gone_in_time}
use Rattle.carrier_turns.proofs.TurnLaws.{goes_act}
use Rattle.carrier_turns.proofs.acts.step_on.Goals as goal

pub run_on-requires-clause-going : goal.run_on-requires-clause-going
run_on-requires-clause-going c =
    runs_going c.args.machine.now c.make_step.new.machine c.args.carrier c.args.thread c.args.least c.args.hand.now c.make_step.new.hand c.requires.may
    (gone_at (runs_so c.in_ok-after.after (sym c.runs_on.ensures ∙ c.if-runs_on.true)) c.in_ok-after.ensures.gone) c.is_legal.ensures

pub run_on-requires-clause-runs : goal.run_on-requires-clause-runs
run_on-requires-clause-runs c =
    (gone_at (runs_so c.in_ok-after.after (sym c.runs_on.ensures ∙ c.if-runs_on.true)) c.in_ok-after.ensures.gone).steps.outcome.1

pub returns-then-runs_on-clause-fits : goal.returns-then-runs_on-clause-fits
returns-then-runs_on-clause-fits c =
    let gone = runs_too (gone_at (runs_so c.in_ok-after.after (sym c.runs_on.ensures ∙ c.if-runs_on.true)) c.in_ok-after.ensures.gone) in
    goes_on_fits c.args.machine.now c.make_step.new.machine c.args.carrier c.args.thread c.args.least c.args.hand.now c.make_step.new.hand _ c.run_on.result
    c.requires.may gone c.is_legal.ensures c.run_on.ensures.way
    (record { mounted_is = refl; frozen_is = refl; local_is = refl; asked_is = c.run_on.ensures.asked }) refl refl

pub returns-then-runs_on-clause-act : goal.returns-then-runs_on-clause-act
returns-then-runs_on-clause-act c =
    let gone = runs_too (gone_at (runs_so c.in_ok-after.after (sym c.runs_on.ensures ∙ c.if-runs_on.true)) c.in_ok-after.ensures.gone) in
    goes_act c.args.machine.now c.make_step.new.machine c.args.carrier c.args.thread c.args.now c.args.least c.args.hand.now c.make_step.new.hand _ c.run_on.result
    c.requires.may gone
    (goes_may c.args.machine.now c.make_step.new.machine c.args.carrier c.args.thread c.args.least c.args.hand.now c.make_step.new.hand gone c.is_legal.ensures)
    c.run_on.ensures.way c.run_on.ensures.asked c.in_ok-after.ensures.gone.works

pub returns-then-runs_on-clause-in_time : goal.returns-then-runs_on-clause-in_time
returns-then-runs_on-clause-in_time c = λ wants.
    let gone = runs_too (gone_at (runs_so c.in_ok-after.after (sym c.runs_on.ensures ∙ c.if-runs_on.true)) c.in_ok-after.ensures.gone) in
    gone_in_time Goes c.args.machine.now c.make_step.new.machine c.args.carrier c.args.thread c.args.least c.args.hand.now c.make_step.new.hand gone goes_made

pub answer_to-requires-clause-gone : goal.answer_to-requires-clause-gone
answer_to-requires-clause-gone c = record {
  old = c.args.machine.now;
  held = c.args.hand.now;
  least = c.args.least;
  may = c.requires.may;
  gone = c.in_ok-after.ensures.gone;
}

pub returns-clause-act : goal.returns-clause-act
returns-clause-act c = c.answer_to.ensures.act (record {
  old = c.args.machine.now;
  held = c.args.hand.now;
  least = c.args.least;
  may = c.requires.may;
  gone = c.in_ok-after.ensures.gone;
})

pub returns-clause-in_time : goal.returns-clause-in_time
returns-clause-in_time c = c.answer_to.ensures.in_time (record {
  old = c.args.machine.now;
  held = c.args.hand.now;
  least = c.args.least;
  may = c.requires.may;
  gone = c.in_ok-after.ensures.gone;
})
