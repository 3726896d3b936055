use Rattle.std.proofs.Common.{subst}
use Rattle.thread_steps.specs.declared.progress.Progress.{Progress}
use Rattle.ref_run.specs.States.{state_of}
use Rattle.ref_run.specs.Steps.{IsProgress}
use Rattle.ref_run.proofs.CallLaws.{call_made}
use Rattle.ref_run.proofs.LeaveLaws.{result_there, return_made}
use Rattle.ref_run.proofs.PhaseLaws.{request_made}
use Rattle.ref_run.proofs.phases.running_step.Goals as goal

pub returns-in-Asks-clause-step : goal.returns-in-Asks-clause-step
returns-in-Asks-clause-step c = λ frames has.
    let w = c.args.program.now in
    let r = state_of c.args.state.now in
    let s = state_of c.run_instruction.new.state in
    let asked = subst (λ (x : Progress). IsProgress w r c.args.t x s) c.in-Asks.is c.in_ok-progress.ensures.progress in
    request_made w r s c.args.t c.in-Asks.pending frames c.make_request.result c.make_request.new.state asked.1 has (asked.0 frames has) c.make_request.ensures

pub returns-in_ok-call_method-in-Calls-clause-step : goal.returns-in_ok-call_method-in-Calls-clause-step
returns-in_ok-call_method-in-Calls-clause-step c = λ frames has.
    let w = c.args.program.now in
    let r = state_of c.args.state.now in
    let s = state_of c.run_instruction.new.state in
    let called = subst (λ (x : Progress). IsProgress w r c.args.t x s) c.in-Calls.is c.in_ok-progress.ensures.progress in
    call_made w r s (state_of c.call_method.new.state) c.args.t c.in-Calls.call frames called.1 has (called.0 frames has) (c.in_ok-call_method-in-Calls).ensures

pub return_method-requires : goal.return_method-requires
return_method-requires c =
    let w = c.args.program.now in
    let r = state_of c.args.state.now in
    let s = state_of c.run_instruction.new.state in
    let returned = subst (λ (x : Progress). IsProgress w r c.args.t x s) c.in-Returns.is c.in_ok-progress.ensures.progress in
    result_there w r s c.args.t c.in-Returns.back returned.1 returned.0

pub returns-in_ok-return_method-in-Returns-clause-step : goal.returns-in_ok-return_method-in-Returns-clause-step
returns-in_ok-return_method-in-Returns-clause-step c = λ frames has.
    let w = c.args.program.now in
    let r = state_of c.args.state.now in
    let s = state_of c.run_instruction.new.state in
    let returned = subst (λ (x : Progress). IsProgress w r c.args.t x s) c.in-Returns.is c.in_ok-progress.ensures.progress in
    return_made w r s (state_of c.return_method.new.state) c.args.t c.in-Returns.back frames returned.1 has (returned.0 frames has) (c.in_ok-return_method-in-Returns).ensures
