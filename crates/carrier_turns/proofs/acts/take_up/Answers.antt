use Rattle.std.proofs.Common.{refl, subst, sym}
use Rattle.carrier_turns.specs.Acts.{IsAct}
use Rattle.carrier_turns.specs.declared.ask.Turn.TheVariants.{Nap}
use Rattle.carrier_turns.specs.Turns.{IsNap}
use Rattle.carrier_turns.proofs.TurnLaws.{mount_fails_act, mount_act, nap_act, nothing_told}
use Rattle.carrier_turns.proofs.ActLaws.{goes_by, taken_fits}
use Rattle.carrier_turns.proofs.acts.take_up.Goals as goal

pub returns-in_default-mount-clause-act : goal.returns-in_default-mount-clause-act
returns-in_default-mount-clause-act c =
    mount_fails_act c.args.machine.now c.next.new.self c.give_up.new.machine c.args.carrier c.in-Some.frozen.thread c.args.now c.args.hand.now _ c.requires.may c.requires.nothing
    c.in-Some.ensures.entry c.is_legal.ensures c.give_up.ensures c.requires.may.done

pub returns-clause-fits : goal.returns-clause-fits
returns-clause-fits c =
    taken_fits c.args.machine.now c.next.new.self c.args.carrier c.thread-thread.result c.in-Some.frozen c.in-Ok.mounted c.args.hand.now _ c.way_on-answer.result
    c.requires.may c.requires.nothing c.in-Some.ensures.entry c.is_legal.ensures c.in-Ok.ensures.ok c.thread-thread.ensures c.in-Some.ensures.hand
    c.in-Some.ensures.free c.way_on-answer.ensures (record { mounted_is = refl; frozen_is = refl; local_is = refl; asked_is = c.asked-hand.ensures }) refl refl

pub returns-clause-act : goal.returns-clause-act
returns-clause-act c =
    mount_act c.args.machine.now c.next.new.self c.args.carrier c.in-Some.frozen.thread c.args.now c.in-Some.frozen.stack.frames c.args.hand.now _ c.way_on-answer.result c.requires.may c.requires.nothing
    c.in-Some.ensures.entry c.in-Some.ensures.hand c.in-Some.ensures.loose (goes_by c.next.new.self c.thread-thread.result c.in-Some.frozen.thread c.way_on-answer.result c.thread-thread.ensures c.way_on-answer.ensures)
    c.asked-hand.ensures c.requires.may.works

pub returns-in_default-clause-act : goal.returns-in_default-clause-act
returns-in_default-clause-act c =
    let m = c.args.machine.now in
    let nap = subst (λ k. IsNap k c.args.now c.nap_length.result) c.in_default.ensures.none c.nap_length.ensures in
    subst (λ k. IsAct m k c.args.carrier c.args.now c.args.hand.now c.args.hand.now (Nap c.nap_length.result)) (sym c.in_default.ensures.none)
    (nap_act m c.args.carrier c.args.now c.nap_length.result c.args.hand.now c.requires.may.going (nothing_told m c.requires.may.legal c.requires.may.going)
    c.requires.may.done c.requires.nothing c.in_default.ensures.empty nap)
