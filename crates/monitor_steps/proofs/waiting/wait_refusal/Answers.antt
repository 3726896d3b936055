use Rattle.std.proofs.Common.{Bool, sym, subst, ◌∙◌}
use Rattle.program_state.specs.Waking.{IsInterruptTaken}
use Rattle.monitor_steps.proofs.WaitLaws.{wait_interrupted, wait_may, wait_negative, wait_unowned}
use Rattle.monitor_steps.proofs.waiting.wait_refusal.Goals as goal

pub returns-then-is_negative : goal.returns-then-is_negative
returns-then-is_negative c = wait_negative c.args.t c.args.o c.args.millis c.args.state.now (sym c.is_negative.ensures ∙ c.if-is_negative.true)

pub returns-then-not-is_owner : goal.returns-then-not-is_owner
returns-then-not-is_owner c =
    wait_unowned c.args.t c.args.o c.args.millis c.args.state.now (sym c.is_negative.ensures ∙ c.if-is_negative.false) (sym c.is_owner.ensures ∙ c.if-not-is_owner.true)

pub returns-then-interrupted : goal.returns-then-interrupted
returns-then-interrupted c =
    let a = c.args.state.now in
    wait_interrupted c.args.t c.args.o c.args.millis a c.take_interrupt.new.wakes (sym c.is_negative.ensures ∙ c.if-is_negative.false) (sym c.is_owner.ensures ∙ c.if-not-is_owner.false)
    (subst (λ (b : Bool). IsInterruptTaken c.args.t b a.wakes c.take_interrupt.new.wakes) c.if-interrupted.true c.in_ok-interrupted.ensures)

pub returns : goal.returns
returns c =
    let a = c.args.state.now in
    wait_may c.args.t c.args.o c.args.millis a c.take_interrupt.new.wakes (sym c.is_negative.ensures ∙ c.if-is_negative.false) (sym c.is_owner.ensures ∙ c.if-not-is_owner.false)
    (subst (λ (b : Bool). IsInterruptTaken c.args.t b a.wakes c.take_interrupt.new.wakes) c.if-interrupted.false c.in_ok-interrupted.ensures)
