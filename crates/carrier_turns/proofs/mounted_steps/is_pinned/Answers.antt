use Rattle.carrier_turns.proofs.ActLaws.{held_by, loose_by, off_holds, there_is}
use Rattle.carrier_turns.proofs.mounted_steps.is_pinned.Goals as goal

pub is_pinned-requires : goal.is_pinned-requires
is_pinned-requires c =
    off_holds c.args.machine.now c.args.carrier c.args.thread c.args.hand.now c.in-Some.mounted c.requires.may c.requires.mounted c.requires.off c.in-Some.is

pub returns-in-Some-clause-held : goal.returns-in-Some-clause-held
returns-in-Some-clause-held c =
    held_by c.args.machine.now c.args.carrier c.args.thread c.args.hand.now c.in-Some.mounted c.is_pinned.result c.requires.may c.requires.mounted c.requires.off
    c.in-Some.is c.is_pinned.ensures

pub returns-in-Some-clause-loose : goal.returns-in-Some-clause-loose
returns-in-Some-clause-loose c =
    loose_by c.args.machine.now c.args.thread c.args.hand.now c.in-Some.mounted c.is_pinned.result c.requires.mounted c.in-Some.is c.is_pinned.ensures

pub returns-in-None-clause-loose : goal.returns-in-None-clause-loose
returns-in-None-clause-loose c = λ no. absurd (there_is c.args.hand.now c.args.thread c.requires.mounted c.in-None.is)
