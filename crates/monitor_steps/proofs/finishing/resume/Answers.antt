use Rattle.std.proofs.Common.{subst}
use Rattle.thread_steps.specs.declared.progress.Progress.{Progress}
use Rattle.program_state.specs.Running.{IsProgress}
use Rattle.monitor_steps.proofs.FinishLaws.{line_stays}
use Rattle.monitor_steps.proofs.finishing.resume.Goals as goal

pub resume_request-requires-clause-in_line : goal.resume_request-requires-clause-in_line
resume_request-requires-clause-in_line g c =
    let w = g.W.EventWorld.world c.args.world.now in
    let a = c.args.state.now in
    let b = c.run_step.new.state in
    let m = c.args.mounted.now in
    let n = c.run_step.new.mounted in
    let asked = subst (λ (p : Progress). IsProgress w p a m b n) c.in-Asks.is c.in_ok-run_step.ensures.progress in
    line_stays c.args.line a b m n asked.1 c.requires.in_line

pub resume_call-requires-clause-in_line : goal.resume_call-requires-clause-in_line
resume_call-requires-clause-in_line g c =
    let w = g.W.EventWorld.world c.args.world.now in
    let a = c.args.state.now in
    let b = c.run_step.new.state in
    let m = c.args.mounted.now in
    let n = c.run_step.new.mounted in
    let asked = subst (λ (p : Progress). IsProgress w p a m b n) c.in-Calls.is c.in_ok-run_step.ensures.progress in
    line_stays c.args.line a b m n asked.1 c.requires.in_line
