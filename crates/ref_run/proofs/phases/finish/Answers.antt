use Rattle.std.proofs.Common.{subst}
use Rattle.thread_steps.specs.declared.progress.Progress.{Progress}
use Rattle.ref_run.specs.States.{state_of}
use Rattle.ref_run.specs.Steps.{IsProgress}
use Rattle.ref_run.proofs.CallLaws.{call_resumes}
use Rattle.ref_run.proofs.PhaseLaws.{on_ok, request_resumes}
use Rattle.ref_run.proofs.phases.finish.Goals as goal

pub returns-in-Asks-clause-step : goal.returns-in-Asks-clause-step
returns-in-Asks-clause-step c =
    let w = c.args.program.now in
    let r = state_of c.args.state.now in
    let s = state_of c.run_instruction.new.state in
    let asked = subst (λ (x : Progress). IsProgress w r c.args.t x s) c.in-Asks.is c.in_ok-progress.ensures.progress in
    on_ok c.finish_request.result c.finish_request.ensures (λ leads frames has.
    request_resumes w r s (state_of c.finish_request.new.state) c.args.t c.in-Asks.pending frames asked.1 has (asked.0 frames has) leads)

pub returns-in-Calls-clause-step : goal.returns-in-Calls-clause-step
returns-in-Calls-clause-step c =
    let w = c.args.program.now in
    let r = state_of c.args.state.now in
    let s = state_of c.run_instruction.new.state in
    let called = subst (λ (x : Progress). IsProgress w r c.args.t x s) c.in-Calls.is c.in_ok-progress.ensures.progress in
    on_ok c.finish_call.result c.finish_call.ensures (λ leads frames has.
    call_resumes w r s (state_of c.finish_call.new.state) c.args.t c.in-Calls.call frames called.1 has (called.0 frames has) leads)
