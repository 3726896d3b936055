use Rattle.std.proofs.Common.{refl}
use Rattle.carrier_turns.proofs.ActLaws.{gone_halts, goes_lives, goes_may, goes_on_fits, gone_at, leaves_on_fits, retire_may, waits_on_fits}
use Rattle.machine.specs.declared.after.After.TheVariants.{Goes, Leaves, Waits, Ends}
use Rattle.carrier_turns.proofs.StepLaws.{ends_made, goes_made, gone_in_time, leaves_made, waits_made}
use Rattle.carrier_turns.proofs.TurnLaws.{ends_act, goes_act, halts_act, leaves_act, waits_act}
use Rattle.carrier_turns.proofs.acts.answer_to.Goals as goal

pub way_on-answer-requires-clause-live : goal.way_on-answer-requires-clause-live
way_on-answer-requires-clause-live c =
    let x = c.requires.gone in
    goes_lives x.old c.args.machine.now c.args.carrier c.args.thread x.least x.held c.args.hand.now
    (gone_at c.in-Goes.is x.gone) c.is_legal.ensures

pub retire-requires-clause-may : goal.retire-requires-clause-may
retire-requires-clause-may c =
    let x = c.requires.gone in
    retire_may x.old c.args.machine.now c.args.carrier c.args.thread x.least x.held c.args.hand.now (gone_at c.in-Ends.is x.gone)

pub returns-in-Goes-clause-fits : goal.returns-in-Goes-clause-fits
returns-in-Goes-clause-fits c =
    let x = c.requires.gone in
    goes_on_fits x.old c.args.machine.now c.args.carrier c.args.thread x.least x.held c.args.hand.now _ c.way_on-answer.result
    x.may (gone_at c.in-Goes.is x.gone) c.is_legal.ensures c.way_on-answer.ensures
    (record { mounted_is = refl; frozen_is = refl; local_is = refl; asked_is = c.asked-hand.ensures }) refl refl

pub returns-in-Goes-clause-act : goal.returns-in-Goes-clause-act
returns-in-Goes-clause-act c = λ x.
    goes_act x.old c.args.machine.now c.args.carrier c.args.thread c.args.now x.least x.held c.args.hand.now _ c.way_on-answer.result
    x.may (gone_at c.in-Goes.is x.gone)
    (goes_may x.old c.args.machine.now c.args.carrier c.args.thread x.least x.held c.args.hand.now
    (gone_at c.in-Goes.is x.gone) c.is_legal.ensures) c.way_on-answer.ensures c.asked-hand.ensures x.gone.works

pub returns-in-Leaves-clause-fits : goal.returns-in-Leaves-clause-fits
returns-in-Leaves-clause-fits c =
    let x = c.requires.gone in
    leaves_on_fits x.old c.args.machine.now c.unless_stalled-answer.new.machine c.args.carrier c.args.thread x.least x.held
    c.args.hand.now _ c.unless_stalled-answer.result x.may (gone_at c.in-Leaves.is x.gone) c.is_legal.ensures
    c.unless_stalled-answer.ensures (record { mounted_is = refl; frozen_is = refl; local_is = refl; asked_is = c.asked-hand-in-Leaves.ensures }) refl refl

pub returns-in-Leaves-clause-act : goal.returns-in-Leaves-clause-act
returns-in-Leaves-clause-act c = λ x.
    leaves_act x.old c.args.machine.now c.unless_stalled-answer.new.machine c.args.carrier c.args.thread c.args.now x.least x.held
    c.args.hand.now _ c.unless_stalled-answer.result x.may (gone_at c.in-Leaves.is x.gone)
    c.is_legal.ensures c.unless_stalled-answer.ensures c.asked-hand-in-Leaves.ensures x.gone.works

pub returns-in-Ends-clause-act : goal.returns-in-Ends-clause-act
returns-in-Ends-clause-act c = λ x.
    ends_act x.old c.args.machine.now c.retire.new.self c.unless_stalled.new.machine c.args.carrier c.args.thread c.args.now x.least x.held
    c.args.hand.now _ c.unless_stalled.result x.may (gone_at c.in-Ends.is x.gone)
    c.retire.ensures.entry c.is_legal-in-Ends.ensures c.unless_stalled.ensures x.gone.parts.asked_is x.gone.works

pub returns-in-Goes-clause-in_time : goal.returns-in-Goes-clause-in_time
returns-in-Goes-clause-in_time c = λ x wants.
    gone_in_time Goes x.old c.args.machine.now c.args.carrier c.args.thread x.least x.held c.args.hand.now
    (gone_at c.in-Goes.is x.gone) goes_made

pub returns-in-Leaves-clause-in_time : goal.returns-in-Leaves-clause-in_time
returns-in-Leaves-clause-in_time c = λ x wants.
    gone_in_time Leaves x.old c.args.machine.now c.args.carrier c.args.thread x.least x.held c.args.hand.now
    (gone_at c.in-Leaves.is x.gone) leaves_made

pub returns-in-Ends-clause-in_time : goal.returns-in-Ends-clause-in_time
returns-in-Ends-clause-in_time c = λ x wants.
    gone_in_time Ends x.old c.args.machine.now c.args.carrier c.args.thread x.least x.held c.args.hand.now
    (gone_at c.in-Ends.is x.gone) ends_made

pub returns-in-Halts-clause-act : goal.returns-in-Halts-clause-act
returns-in-Halts-clause-act c = λ x.
    halts_act x.old c.args.machine.now c.args.carrier c.args.thread c.args.now x.least x.held c.args.hand.now _ x.may
    (gone_halts c.in-Halts.is x.gone) x.gone.parts.asked_is

pub returns-in-Waits-clause-fits : goal.returns-in-Waits-clause-fits
returns-in-Waits-clause-fits c =
    let x = c.requires.gone in
    waits_on_fits x.old c.args.machine.now c.nap_unless_stalled.new.machine c.args.carrier c.args.thread x.least c.args.now x.held c.args.hand.now
    c.nap_unless_stalled.result x.may (gone_at c.in-Waits.is x.gone) c.is_legal.ensures c.nap_unless_stalled.ensures

pub returns-in-Waits-clause-act : goal.returns-in-Waits-clause-act
returns-in-Waits-clause-act c = λ x.
    waits_act x.old c.args.machine.now c.nap_unless_stalled.new.machine c.args.carrier c.args.thread c.args.now x.least x.held c.args.hand.now
    c.nap_unless_stalled.result x.may (gone_at c.in-Waits.is x.gone) c.is_legal.ensures c.nap_unless_stalled.ensures

pub returns-in-Waits-clause-in_time : goal.returns-in-Waits-clause-in_time
returns-in-Waits-clause-in_time c = λ x wants.
    gone_in_time Waits x.old c.args.machine.now c.args.carrier c.args.thread x.least x.held c.args.hand.now
    (gone_at c.in-Waits.is x.gone) waits_made
