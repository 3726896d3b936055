use Rattle.std.proofs.Common.{subst}
use Rattle.vthread_state.specs.declared.thread.Thread.{Thread}
use Rattle.thread_steps.specs.Concluding.{Raises}
use Rattle.ref_run.proofs.StageLaws.{thrown}
use Rattle.ref_run.proofs.replies.throw.Goals as goal

pub returns : goal.returns
returns g c =
    let w = g.W.EventWorld.world c.args.world.now in
    let a = c.args.state.now in
    let b = c.raise.new.parts in
    thrown w c.args.exception c.args.t a c.set_status.new.state c.in_ok-row_at.field-0.now b c.in_ok-row_at.ensures
    (subst (λ (row : Thread). Raises w c.args.exception (record a.memory { status = row.status }) b) c.thread.ensures c.in_ok-raise.ensures)
    c.set_status.ensures
