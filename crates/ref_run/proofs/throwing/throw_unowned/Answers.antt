use Rattle.std.proofs.Common.{ap, sym}
use Rattle.vthread_state.specs.declared.thread.Thread.{Thread}
use Rattle.ref_run.proofs.LeaveLaws.{frame_unowned}
use Rattle.ref_run.proofs.throwing.throw_unowned.Goals as goal

pub returns : goal.returns
returns g c =
    let w = g.W.EventWorld.world c.args.world.now in
    frame_unowned w c.args.state.now c.take_frames.new.state c.put_frames.new.state c.args.t c.thread-name.result.name c.in_ok-mounted.mounted.stack.frames
    c.throw_unowned.new.mounted.stack.frames c.throw_unowned.new.parts c.in_ok-row_at.field-0.now c.in_ok-mounted.ensures c.in_ok-row_at.ensures
    (ap (λ (x : Thread). x.name) (sym c.thread-name.ensures)) c.put_frames.ensures c.in_ok-throw_unowned.ensures

pub throw_unowned-requires : goal.throw_unowned-requires
throw_unowned-requires g c = c.in_ok-mounted.ensures.some
