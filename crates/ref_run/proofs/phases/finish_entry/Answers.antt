use Rattle.std.proofs.Common.{ap, sym, ◌∙◌}
use Rattle.ref_model.specs.State.{State}
use Rattle.ref_run.specs.States.{frames_of, state_of}
use Rattle.ref_run.proofs.PhaseLaws.{entry_first, entry_later, on_ok}
use Rattle.ref_run.proofs.phases.finish_entry.Goals as goal

pub returns-then-first-clause-step : goal.returns-then-first-clause-step
returns-then-first-clause-step c = λ frames has.
    let s = state_of c.enter.new.state in
    entry_first c.args.program.now (state_of c.args.state.now) s (state_of c.set_status.new.state) c.args.t c.args.o frames c.in_ok-enter.ensures
    (sym (c.in_ok-first.ensures frames (ap (λ (r : State). frames_of r c.args.t) c.in_ok-enter.ensures ∙ has)) ∙ c.if-first.true) c.set_status.ensures

pub returns-clause-step : goal.returns-clause-step
returns-clause-step c =
    on_ok c.finish.result c.finish.ensures.step (λ over frames has.
    let s = state_of c.enter.new.state in
    let still = ap (λ (r : State). frames_of r c.args.t) c.in_ok-enter.ensures ∙ has in
    entry_later c.args.program.now (state_of c.args.state.now) s (state_of c.finish.new.state) c.args.t c.args.o frames c.in_ok-enter.ensures
    (sym (c.in_ok-first.ensures frames still) ∙ c.if-first.false) (over frames still))
