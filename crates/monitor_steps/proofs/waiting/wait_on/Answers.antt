use Rattle.std.proofs.Common.{Option, subst}
use Rattle.ref_model.specs.declared.exception.Exception.{Exception}
use Rattle.monitor_steps.specs.Waits.{IsRefusal}
use Rattle.monitor_steps.proofs.WaitLaws.{wait_answered}
use Rattle.monitor_steps.proofs.waiting.wait_on.Goals as goal

pub returns-in-Some : goal.returns-in-Some
returns-in-Some c =
    subst (λ (x : Option Exception). IsRefusal c.args.t c.args.o c.args.millis c.args.state.now c.wait_refusal.new.state x) c.in-Some.is c.in_ok-exception.ensures

pub returns-in_ok-first-in-None : goal.returns-in_ok-first-in-None
returns-in_ok-first-in-None c =
    wait_answered c.args.t c.args.o c.args.millis c.args.state.now c.wait_refusal.new.state c.begin_wait.new.state c.deadline_of-deadline.result (c.in_ok-first-in-None).first
    (subst (λ (x : Option Exception). IsRefusal c.args.t c.args.o c.args.millis c.args.state.now c.wait_refusal.new.state x) c.in-None.is c.in_ok-exception.ensures)
    c.deadline_of-deadline.ensures (c.in_ok-first-in-None).ensures
