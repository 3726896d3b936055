use Rattle.std.proofs.Common.{sym, ◌∙◌}
use Rattle.carrier_turns.proofs.AnswerLaws.{naps_after, over_after}
use Rattle.carrier_turns.proofs.answers.nap_unless_stalled.Goals as goal

pub returns-then-is_over : goal.returns-then-is_over
returns-then-is_over c =
    over_after c.args.machine.now c.unless_stalled.new.machine c.args.now c.unless_stalled.result c.unless_stalled.ensures (sym c.is_over.ensures ∙ c.if-is_over.true)

pub returns : goal.returns
returns c =
    naps_after c.args.machine.now c.unless_stalled.new.machine c.args.now c.unless_stalled.result c.nap_length.result c.unless_stalled.ensures
    (sym c.is_over.ensures ∙ c.if-is_over.false) c.nap_length.ensures
