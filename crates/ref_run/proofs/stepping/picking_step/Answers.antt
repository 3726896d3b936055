use Rattle.std.proofs.Common.{ap, subst, sym, ◌∙◌}
use Rattle.vthread_state.specs.declared.thread.Thread.{Thread}
use Rattle.thread_steps.specs.declared.progress.Progress.{Progress}
use Rattle.ref_run.specs.States.{state_of}
use Rattle.ref_run.specs.Steps.{IsProgress}
use Rattle.ref_run.proofs.PhaseLaws.{call_picks_none, picked, return_picks_none}
use Rattle.ref_run.proofs.stepping.picking_step.Goals as goal

pub returns-in-Asks-clause-step : goal.returns-in-Asks-clause-step
returns-in-Asks-clause-step c =
    let w = c.args.program.now in
    let r = state_of c.args.state.now in
    let s = state_of c.run_instruction.new.state in
    let asked = subst (λ (x : Progress). IsProgress w r c.args.t x s) c.in-Asks.is c.in_ok-progress.ensures.progress in
    picked w r s c.args.t c.args.u c.in_ok-row_at.field-0.now c.thread.result.status c.in-Asks.pending c.notify_picked.result c.notify_picked.new.state c.in_ok-row_at.ensures
    (ap (λ (x : Thread). x.status) (sym c.thread.ensures)) (sym c.is_running.ensures ∙ c.if-not-is_running.false) asked.1 asked.0 c.notify_picked.ensures

pub returns-in-Calls-clause-step : goal.returns-in-Calls-clause-step
returns-in-Calls-clause-step c =
    let w = c.args.program.now in
    let r = state_of c.args.state.now in
    let s = state_of c.run_instruction.new.state in
    let called = subst (λ (x : Progress). IsProgress w r c.args.t x s) c.in-Calls.is c.in_ok-progress.ensures.progress in
    call_picks_none w r c.args.t c.args.u c.in_ok-row_at.field-0.now c.thread.result.status c.in-Calls.field-0 c.in_ok-row_at.ensures (ap (λ (x : Thread). x.status) (sym c.thread.ensures))
    (sym c.is_running.ensures ∙ c.if-not-is_running.false) called.0

pub returns-in-Returns-clause-step : goal.returns-in-Returns-clause-step
returns-in-Returns-clause-step c =
    let w = c.args.program.now in
    let r = state_of c.args.state.now in
    let s = state_of c.run_instruction.new.state in
    let returned = subst (λ (x : Progress). IsProgress w r c.args.t x s) c.in-Returns.is c.in_ok-progress.ensures.progress in
    return_picks_none w r c.args.t c.args.u c.in_ok-row_at.field-0.now c.thread.result.status c.in-Returns.field-0 c.in_ok-row_at.ensures (ap (λ (x : Thread). x.status) (sym c.thread.ensures))
    (sym c.is_running.ensures ∙ c.if-not-is_running.false) returned.0
