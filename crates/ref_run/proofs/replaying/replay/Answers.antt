use Rattle.std.proofs.Common.{Some, ap, refl, sym, subst, ◌∙◌}
use Rattle.ref_model.specs.State.{State}
use Rattle.frame_soundness.specs.TypedStates.{IsTypedState}
use Rattle.startup.specs.Openings.{setting}
use Rattle.ref_run.proofs.ReplayLaws.{run_replayed}
use Rattle.ref_run.proofs.replaying.replay.Goals as goal

pub run_list-requires-clause-typed : goal.run_list-requires-clause-typed
run_list-requires-clause-typed c = subst (IsTypedState c.args.program.now) (sym c.in_ok-state.ensures) c.in_ok-opened.ensures.typed

pub returns-in-Ok : goal.returns-in-Ok
returns-in-Ok c =
    c.in-Ok.ensures (setting c.args.program.now c.args.main c.args.limits) refl (c.in_ok-opened.ensures.state ∙ ap (λ (r : State). Some r) (sym c.in_ok-state.ensures))

pub returns-in-Err : goal.returns-in-Err
returns-in-Err c =
    let p = setting c.args.program.now c.args.main c.args.limits in
    run_replayed p c.args.list.now c.in-Err.error c.run_list.new.state
    (c.in-Err.ensures p refl (c.in_ok-opened.ensures.state ∙ ap (λ (r : State). Some r) (sym c.in_ok-state.ensures)))
