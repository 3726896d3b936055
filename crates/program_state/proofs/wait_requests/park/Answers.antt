use Rattle.std.proofs.Common.{Bool, subst, sym, ◌∙◌}
use Rattle.program_state.specs.Waking.{IsPermitTaken}
use Rattle.program_state.proofs.WaitRequestLaws.{park_interrupted, park_over, park_permitted, park_waits}
use Rattle.program_state.proofs.wait_requests.park.Goals as goal

pub returns-then-is_over-clause-answers : goal.returns-then-is_over-clause-answers
returns-then-is_over-clause-answers c w = park_over w c.args.t c.args.state.now c.args.nanos (sym c.is_over.ensures ∙ c.if-is_over.true)

pub returns-then-permitted-clause-answers : goal.returns-then-permitted-clause-answers
returns-then-permitted-clause-answers c w =
    park_permitted w c.args.t c.args.state.now c.take_permit.new.wakes c.args.nanos (sym c.is_over.ensures ∙ c.if-is_over.false)
    (subst (λ (b : Bool). IsPermitTaken c.args.t b c.args.state.now.wakes c.take_permit.new.wakes) c.if-permitted.true c.in_ok-permitted.ensures)

pub returns-then-is_interrupted-clause-answers : goal.returns-then-is_interrupted-clause-answers
returns-then-is_interrupted-clause-answers c w =
    park_interrupted w c.args.t c.args.state.now c.take_permit.new.wakes c.args.nanos (sym c.is_over.ensures ∙ c.if-is_over.false)
    (subst (λ (b : Bool). IsPermitTaken c.args.t b c.args.state.now.wakes c.take_permit.new.wakes) c.if-permitted.false c.in_ok-permitted.ensures)
    (sym c.is_interrupted.ensures ∙ c.if-is_interrupted.true)

pub returns-clause-answers : goal.returns-clause-answers
returns-clause-answers c w =
    park_waits w c.args.t c.args.state.now c.take_permit.new.wakes c.args.nanos c.park_deadline.result (sym c.is_over.ensures ∙ c.if-is_over.false)
    (subst (λ (b : Bool). IsPermitTaken c.args.t b c.args.state.now.wakes c.take_permit.new.wakes) c.if-permitted.false c.in_ok-permitted.ensures)
    (sym c.is_interrupted.ensures ∙ c.if-is_interrupted.false) c.park_deadline.ensures
