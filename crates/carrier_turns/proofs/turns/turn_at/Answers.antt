use Rattle.carrier_turns.proofs.CacheLaws.{need_acts, need_later, need_reads, need_spare, need_turn}
use Rattle.carrier_turns.proofs.ReachedLaws.{reached_acts, reached_needs, reached_turn}
use Rattle.carrier_turns.proofs.turns.turn_at.Goals as goal

pub act-requires : goal.act-requires
act-requires c =
    reached_acts c.args.machine.now c.least_time.new.machine c.args.carrier c.args.now c.in-Some.least c.in-Some.ensures.reached c.is_legal.ensures c.args.hand.now
    c.requires.may c.requires.spare

pub returns-in-Some-act-clause-turn : goal.returns-in-Some-act-clause-turn
returns-in-Some-act-clause-turn c =
    reached_turn c.args.machine.now c.least_time.new.machine c.args.carrier c.args.now c.in-Some.least c.in-Some.ensures.reached c.act.new.machine c.args.hand.now c.act.new.hand
    c.in-Some-act.answer c.requires.may c.in-Some-act.ensures.in_time c.in-Some-act.ensures.act

pub turn_with_clock-requires-clause-may : goal.turn_with_clock-requires-clause-may
turn_with_clock-requires-clause-may c =
    let needs = reached_needs c.args.machine.now c.least_time.new.machine c.args.carrier c.args.now c.in-Some.least c.in-Some.ensures.reached c.is_legal.ensures
    c.act.new.machine c.args.hand.now c.act.new.hand c.in-None.ensures.none in
    need_acts c.args.machine.now c.act.new.machine c.args.hand.now c.act.new.hand c.args.now needs c.args.carrier c.requires.may

pub turn_with_clock-requires-clause-spare : goal.turn_with_clock-requires-clause-spare
turn_with_clock-requires-clause-spare c =
    let needs = reached_needs c.args.machine.now c.least_time.new.machine c.args.carrier c.args.now c.in-Some.least c.in-Some.ensures.reached c.is_legal.ensures
    c.act.new.machine c.args.hand.now c.act.new.hand c.in-None.ensures.none in
    need_spare c.args.machine.now c.act.new.machine c.args.hand.now c.act.new.hand c.args.now needs c.requires.spare

pub turn_with_clock-requires-clause-reads : goal.turn_with_clock-requires-clause-reads
turn_with_clock-requires-clause-reads c =
    let needs = reached_needs c.args.machine.now c.least_time.new.machine c.args.carrier c.args.now c.in-Some.least c.in-Some.ensures.reached c.is_legal.ensures
    c.act.new.machine c.args.hand.now c.act.new.hand c.in-None.ensures.none in
    need_reads c.args.machine.now c.act.new.machine c.args.hand.now c.act.new.hand c.args.now needs

pub turn_with_clock-requires-clause-later : goal.turn_with_clock-requires-clause-later
turn_with_clock-requires-clause-later c =
    let needs = reached_needs c.args.machine.now c.least_time.new.machine c.args.carrier c.args.now c.in-Some.least c.in-Some.ensures.reached c.is_legal.ensures
    c.act.new.machine c.args.hand.now c.act.new.hand c.in-None.ensures.none in
    need_later c.args.machine.now c.act.new.machine c.args.hand.now c.act.new.hand c.args.now needs

pub returns-in-None-clause-turn : goal.returns-in-None-clause-turn
returns-in-None-clause-turn c =
    let needs = reached_needs c.args.machine.now c.least_time.new.machine c.args.carrier c.args.now c.in-Some.least c.in-Some.ensures.reached c.is_legal.ensures
    c.act.new.machine c.args.hand.now c.act.new.hand c.in-None.ensures.none in
    need_turn c.args.machine.now c.act.new.machine c.args.hand.now c.act.new.hand c.args.now needs c.turn_with_clock.new.machine c.args.carrier c.args.now
    c.turn_with_clock.new.hand c.turn_with_clock.result c.turn_with_clock.ensures.turn
