use Rattle.std.proofs.Common.{Bool, subst, sym, ◌∙◌}
use Rattle.program_state.specs.Waking.{IsInterruptTaken}
use Rattle.program_state.proofs.WaitRequestLaws.{join_goes, join_interrupted, join_throws, join_waits}
use Rattle.program_state.proofs.wait_requests.join.Goals as goal

pub returns-then-is_negative-clause-answers : goal.returns-then-is_negative-clause-answers
returns-then-is_negative-clause-answers c w = join_throws w c.args.t c.args.target c.args.state.now c.args.millis (sym c.is_negative.ensures ∙ c.if-is_negative.true)

pub returns-then-not-is_live-clause-answers : goal.returns-then-not-is_live-clause-answers
returns-then-not-is_live-clause-answers c w =
    join_goes w c.args.t c.args.target c.args.state.now c.args.millis c.in_ok-row.row (sym c.is_negative.ensures ∙ c.if-is_negative.false) c.in_ok-row.ensures (sym c.is_live.ensures ∙ c.if-not-is_live.true)

pub returns-then-interrupted-clause-answers : goal.returns-then-interrupted-clause-answers
returns-then-interrupted-clause-answers c w =
    join_interrupted w c.args.t c.args.target c.args.state.now c.take_interrupt.new.wakes c.args.millis c.in_ok-row.row (sym c.is_negative.ensures ∙ c.if-is_negative.false) c.in_ok-row.ensures
    (sym c.is_live.ensures ∙ c.if-not-is_live.false)
    (subst (λ (b : Bool). IsInterruptTaken c.args.t b c.args.state.now.wakes c.take_interrupt.new.wakes) c.if-interrupted.true c.in_ok-interrupted.ensures)

pub returns-clause-answers : goal.returns-clause-answers
returns-clause-answers c w =
    join_waits w c.args.t c.args.target c.args.state.now c.take_interrupt.new.wakes c.args.millis c.deadline_of-deadline.result c.in_ok-row.row (sym c.is_negative.ensures ∙ c.if-is_negative.false)
    c.in_ok-row.ensures (sym c.is_live.ensures ∙ c.if-not-is_live.false)
    (subst (λ (b : Bool). IsInterruptTaken c.args.t b c.args.state.now.wakes c.take_interrupt.new.wakes) c.if-interrupted.false c.in_ok-interrupted.ensures) c.deadline_of-deadline.ensures
