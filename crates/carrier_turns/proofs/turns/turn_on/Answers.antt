use Rattle.std.proofs.Common.{sym, ◌∙◌, refl}
use Rattle.carrier_turns.proofs.ActLaws.{given_up_fits, given_up_turn, may_act, turn_after_room}
use Rattle.carrier_turns.proofs.turns.turn_on.Goals as goal

pub returns-then-hand-clause-turn : goal.returns-then-hand-clause-turn
returns-then-hand-clause-turn c =
    given_up_turn c.args.machine.now c.args.machine.now c.fail.new.self c.args.carrier c.args.now c.args.hand.now refl c.is_legal.ensures
    c.fail.ensures c.requires.done

pub returns-then-is_err-clause-fits : goal.returns-then-is_err-clause-fits
returns-then-is_err-clause-fits c =
    given_up_fits c.args.machine.now c.room.new.self c.fail-then-is_err.new.self c.args.carrier c.args.hand.now c.room.ensures.kept c.is_legal.ensures c.fail-then-is_err.ensures c.requires.fits

pub returns-then-is_err-clause-turn : goal.returns-then-is_err-clause-turn
returns-then-is_err-clause-turn c =
    given_up_turn c.args.machine.now c.room.new.self c.fail-then-is_err.new.self c.args.carrier c.args.now c.args.hand.now c.room.ensures.kept c.is_legal.ensures
    c.fail-then-is_err.ensures c.requires.done

pub turn_at-requires-clause-may : goal.turn_at-requires-clause-may
turn_at-requires-clause-may c =
    may_act c.args.machine.now c.room.new.self c.args.carrier c.args.hand.now c.room.result c.room.ensures.kept c.is_legal-2.ensures c.requires.fits c.requires.done
    c.if-hand.false c.requires.going c.room.ensures.ok (sym c.is_err.ensures.value ∙ c.if-is_err.false)

pub returns-clause-turn : goal.returns-clause-turn
returns-clause-turn c =
    turn_after_room c.args.machine.now c.room.new.self c.turn_at.new.machine c.args.carrier c.args.now c.args.hand.now c.turn_at.new.hand c.turn_at.result c.room.ensures.kept c.turn_at.ensures.turn
