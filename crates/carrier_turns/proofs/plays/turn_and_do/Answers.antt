use Rattle.std.proofs.Common.{ap, sym, ◌∙◌}
use Rattle.ref_model.specs.Setting.{Setting}
use Rattle.carrier_turns.proofs.PlayLaws.{done_turn, is_ready}
use Rattle.carrier_turns.proofs.plays.turn_and_do.Goals as goal

pub do_asked-requires-clause-ready : goal.do_asked-requires-clause-ready
do_asked-requires-clause-ready g c =
    is_ready c.turn-answer.new.machine c.args.program.now c.is_legal.ensures
    (c.requires.program ∙ sym (ap (λ (p : Setting). p.world) c.turn-answer.ensures.turn.appends.setting))

pub returns-clause-hand : goal.returns-clause-hand
returns-clause-hand g c = record {
  fits = c.do_asked.ensures.fits c.turn-answer.new.machine c.args.at.carrier
      (ap (λ (p : Setting). p.world) c.turn-answer.ensures.turn.appends.setting ∙ sym c.requires.program) c.turn-answer.ensures.fits;
  done = c.do_asked.ensures.done;
}

pub returns-clause-turn : goal.returns-clause-turn
returns-clause-turn g c =
    done_turn c.args.machine.now c.turn-answer.new.machine c.args.at.carrier c.args.at.now c.args.hand.now c.turn-answer.new.hand c.do_asked.new.hand c.turn-answer.result
    c.turn-answer.ensures.turn c.turn-answer.ensures.ended c.do_asked.ensures.presses
