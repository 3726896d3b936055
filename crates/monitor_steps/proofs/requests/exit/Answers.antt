use Rattle.std.proofs.Common.{Option, subst}
use Rattle.monitor_steps.specs.declared.outcome.MonitorOutcome.{MonitorOutcome}
use Rattle.monitor_steps.specs.Owners.{IsLeft}
use Rattle.monitor_steps.proofs.AnswerLaws.{exit_goes, exit_throws}
use Rattle.monitor_steps.proofs.requests.exit.Goals as goal

pub returns-in-Some : goal.returns-in-Some
returns-in-Some c =
    let a = c.args.state.now in
    exit_goes c.args.t c.args.o c.in-Some.outcome a c.leave_once.new.monitors
    (subst (λ (x : Option MonitorOutcome). IsLeft c.args.t c.args.o x a.monitors c.leave_once.new.monitors) c.in-Some.is c.in_ok-outcome.ensures)

pub returns-in-None : goal.returns-in-None
returns-in-None c =
    let a = c.args.state.now in
    exit_throws c.args.t c.args.o a c.leave_once.new.monitors
    (subst (λ (x : Option MonitorOutcome). IsLeft c.args.t c.args.o x a.monitors c.leave_once.new.monitors) c.in-None.is c.in_ok-outcome.ensures)
