use Rattle.std.proofs.Common.{refl, sym, subst}
use Rattle.machine.specs.Hands.{IsLoose, Waits}
use Rattle.carrier_turns.specs.Turns.{MayNotStep}
use Rattle.carrier_turns.proofs.ActLaws.{off_fits}
use Rattle.carrier_turns.proofs.TurnLaws.{freeze_act, keep_act}
use Rattle.carrier_turns.proofs.acts.pause.Goals as goal

pub returns-then-is_pinned-clause-act : goal.returns-then-is_pinned-clause-act
returns-then-is_pinned-clause-act c =
    let has = c.requires.mounted in
    keep_act c.args.machine.now c.args.carrier c.args.now c.nap_length.result has.kept c.args.hand.now c.requires.may has.mounted
    (subst (Waits c.args.machine.now) (sym has.thread) (c.is_pinned.ensures.held c.if-is_pinned.true)) c.nap_length.ensures

pub returns-clause-fits : goal.returns-clause-fits
returns-clause-fits c =
    off_fits c.args.machine.now c.args.carrier c.args.thread c.args.hand.now _ c.requires.may c.requires.mounted c.requires.off (c.is_pinned.ensures.loose c.if-is_pinned.false)
    (record { mounted_is = refl; frozen_is = refl; local_is = refl; asked_is = refl }) refl refl

pub returns-clause-act : goal.returns-clause-act
returns-clause-act c =
    let m = c.args.machine.now in
    let has = c.requires.mounted in
    freeze_act m c.args.carrier c.args.now has.kept c.args.hand.now _ c.requires.may has.mounted
    (subst (MayNotStep m) (sym has.thread) c.requires.off) (subst (IsLoose m) (sym has.thread) (c.is_pinned.ensures.loose c.if-is_pinned.false)) refl c.requires.may.works
