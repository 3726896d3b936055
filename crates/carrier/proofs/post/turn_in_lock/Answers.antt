use Rattle.std.proofs.Common.{ap, sym, ◌∙◌, subst}
use Rattle.std.specs.Prelude.{IsTrue, is_some}
use Rattle.turn_lock.specs.Seats.{Continues, SeatState}
use Rattle.carrier_turns.specs.Hands.{Fits}
use Rattle.carrier.specs.Runs.{IsTimed}
use Rattle.carrier.specs.Shared.{shared_run}
use Rattle.carrier.proofs.PostLaws.{both_parts, clock_of, continues_by, fits_taken, met_on, parts_of, parts_stay, turned_on}
use Rattle.carrier.proofs.post.turn_in_lock.Goals as goal

pub turn-answer-requires-clause-fits : goal.turn-answer-requires-clause-fits
turn-answer-requires-clause-fits g c =
    subst (λ k. Fits c.take-held.result.value.machine k c.args.hand.now) (sym c.number-carrier.ensures)
    (fits_taken c.args.lock.now.initial.machine c.take-held.result.value.machine c.args.seat.now c.args.hand.now c.requires.knows
    (parts_of c.take-held.result.value c.args.lock.now.initial c.take-held.ensures.setting) c.take-held.ensures.seen)

pub turn-answer-requires-clause-given : goal.turn-answer-requires-clause-given
turn-answer-requires-clause-given g c =
    subst (λ k. IsTrue (g.C.Clock.gives k c.args.now)) (sym (clock_of c.take-held.result.value c.args.lock.now.initial c.take-held.ensures.setting)) c.requires.given

pub ending_after-met-requires : goal.ending_after-met-requires
ending_after-met-requires g c = c.turn-answer.ensures.turn.over

pub makes_way-makes_way-requires-clause-carrier : goal.makes_way-makes_way-requires-clause-carrier
makes_way-makes_way-requires-clause-carrier g c = c.turn-answer.ensures.fits.below

pub makes_way-makes_way-requires-clause-ended : goal.makes_way-makes_way-requires-clause-ended
makes_way-makes_way-requires-clause-ended g c = c.turn-answer.ensures.turn.over

pub give-requires-clause-lock : goal.give-requires-clause-lock
give-requires-clause-lock g c = ap (λ (s : SeatState). s.lock) c.take-held.ensures.seat ∙ c.requires.lock

pub give-requires-clause-turn : goal.give-requires-clause-turn
give-requires-clause-turn g c = ap (λ (s : SeatState). s.holds) c.take-held.ensures.seat

pub give-requires-clause-setting : goal.give-requires-clause-setting
give-requires-clause-setting g c =
    both_parts c.turn-answer.new.self c.take-held.result.value
    (parts_stay c.take-held.result.value.machine c.turn-answer.new.self.machine c.number-carrier.result c.args.now c.turn-answer.ensures.turn.appends) c.turn-answer.ensures.clock
    ∙ c.take-held.ensures.setting

pub give-requires-clause-continues : goal.give-requires-clause-continues
give-requires-clause-continues g c =
    subst (λ k. Continues k c.take-held.new.seat.seen c.turn-answer.new.self.machine.history)
    (c.number-carrier.ensures ∙ sym (ap (λ (s : SeatState). s.number) c.take-held.ensures.seat))
    (continues_by c.take-held.result.value.machine c.turn-answer.new.self.machine c.number-carrier.result c.args.now c.take-held.new.seat.seen c.turn-answer.ensures.turn.appends
    (ap (λ (s : SeatState). s.seen) c.take-held.ensures.seat))

pub returns-clause-lock : goal.returns-clause-lock
returns-clause-lock g c = ap (λ (s : SeatState). s.lock) (c.give_way.ensures ∙ c.give.ensures) ∙ ap (λ (s : SeatState). s.lock) c.take-held.ensures.seat

pub returns-clause-number : goal.returns-clause-number
returns-clause-number g c = ap (λ (s : SeatState). s.number) (c.give_way.ensures ∙ c.give.ensures) ∙ ap (λ (s : SeatState). s.number) c.take-held.ensures.seat

pub returns-clause-idle : goal.returns-clause-idle
returns-clause-idle g c = ap (λ (s : SeatState). s.holds) (c.give_way.ensures ∙ c.give.ensures)

pub returns-clause-turned : goal.returns-clause-turned
returns-clause-turned g c =
    turned_on (shared_run g.C.Clock.gives c.args.lock.now) c.turn-answer.new.self.machine c.give_way.new.self
    (parts_stay c.take-held.result.value.machine c.turn-answer.new.self.machine c.number-carrier.result c.args.now c.turn-answer.ensures.turn.appends
    ∙ parts_of c.take-held.result.value c.args.lock.now.initial c.take-held.ensures.setting)
    c.is_legal.ensures.legal (ap (λ (s : SeatState). s.seen) (c.give_way.ensures ∙ c.give.ensures)) c.take-held.result.value.machine c.number-carrier.result c.args.now c.args.hand.now c.turn-answer.new.hand
    c.turn-answer.result c.turn-answer.ensures.fits c.turn-answer.ensures.turn
    (ap (λ (s : SeatState). s.number) (c.give_way.ensures ∙ c.give.ensures) ∙ ap (λ (s : SeatState). s.number) c.take-held.ensures.seat ∙ sym c.number-carrier.ensures)

pub returns-clause-met : goal.returns-clause-met
returns-clause-met g c =
    met_on (shared_run g.C.Clock.gives c.args.lock.now) c.turn-answer.new.self.machine c.give_way.new.self
    (parts_stay c.take-held.result.value.machine c.turn-answer.new.self.machine c.number-carrier.result c.args.now c.turn-answer.ensures.turn.appends
    ∙ parts_of c.take-held.result.value c.args.lock.now.initial c.take-held.ensures.setting)
    c.is_legal.ensures.legal (ap (λ (s : SeatState). s.seen) (c.give_way.ensures ∙ c.give.ensures)) c.ending_after-met.result c.ending_after-met.ensures
    (subst (λ k. IsTimed (g.C.Clock.gives k) c.turn-answer.new.self.machine)
    (c.turn-answer.ensures.clock ∙ clock_of c.take-held.result.value c.args.lock.now.initial c.take-held.ensures.setting) c.is_legal.ensures.timed)

pub returns-clause-over : goal.returns-clause-over
returns-clause-over g c = c.turn-answer.ensures.turn.over ∙ sym (ap is_some c.ending_after-met.ensures)
