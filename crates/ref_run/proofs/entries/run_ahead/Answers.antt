use Rattle.std.proofs.Common.{ap, subst, sym, ◌∙◌}
use Rattle.vthread_state.specs.declared.thread.Thread.{Thread}
use Rattle.link_model.specs.World.{World}
use Rattle.frame_soundness.specs.Typed.{Typed}
use Rattle.ref_model.specs.LocalRows.{rows}
use Rattle.interp_local.specs.Stops.{steps_of}
use Rattle.ref_run.proofs.EntryLaws.{ahead_made, ahead_typed}
use Rattle.ref_run.proofs.PhaseLaws.{none_if}
use Rattle.ref_run.proofs.entries.run_ahead.Goals as goal

pub returns-clause-steps : goal.returns-clause-steps
returns-clause-steps c =
    let w = c.args.program.now in
    let frames = c.in_ok-mounted.mounted.stack.frames in
    let after = c.run_local-local.new.m.stack.frames in
    ahead_made w c.args.state.now c.take_frames.new.state c.put_frames.new.state c.args.t c.steps_of.result c.in_ok-row_at.field-0.now c.thread.result.status frames after
    c.local_steps_stay_in_their_frames.ensures.steps c.in_ok-mounted.ensures c.put_frames.ensures c.in_ok-row_at.ensures (ap (λ (x : Thread). x.status) (sym c.thread.ensures))
    (sym c.is_running.ensures ∙ c.if-not-is_running.false) (sym c.ending.ensures ∙ none_if c.ending.result (sym c.is_some.ensures ∙ c.if-is_some.false))
    (ap (λ n. rows w n frames) c.steps_of.ensures ∙ ap (λ (v : World). rows v (steps_of c.run_local-local.result) frames) (sym c.prepared.ensures) ∙ c.run_local-local.ensures.rows)

pub returns-clause-typed : goal.returns-clause-typed
returns-clause-typed c =
    let after = c.run_local-local.new.m.stack.frames in
    ahead_typed c.args.program.now c.args.state.now c.take_frames.new.state c.put_frames.new.state c.args.t c.in_ok-mounted.mounted.stack.frames after
    c.threads_keep.ensures.frames c.requires.typed c.in_ok-mounted.ensures c.put_frames.ensures
    (subst (λ (v : World). Typed v after) c.prepared.ensures c.run_local-local.ensures.typed)
