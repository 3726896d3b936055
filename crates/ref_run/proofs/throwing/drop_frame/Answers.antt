use Rattle.std.proofs.Common.{ap, sym}
use Rattle.vthread_state.specs.declared.thread.Thread.{Thread}
use Rattle.ref_run.proofs.LeaveLaws.{frame_drops}
use Rattle.ref_run.proofs.throwing.drop_frame.Goals as goal

pub returns : goal.returns
returns g c =
    let w = g.W.EventWorld.world c.args.world.now in
    frame_drops w c.args.state.now c.take_frames.new.state c.put_frames.new.state c.args.t c.thread-name.result.name c.args.class c.in_ok-mounted.mounted.stack.frames
    c.drop_unlocked.new.mounted.stack.frames c.drop_unlocked.new.parts c.in_ok-row_at.field-0.now c.in_ok-mounted.ensures c.in_ok-row_at.ensures
    (ap (λ (x : Thread). x.name) (sym c.thread-name.ensures)) c.put_frames.ensures c.in_ok-drop_unlocked.ensures

pub drop_unlocked-requires : goal.drop_unlocked-requires
drop_unlocked-requires g c = c.in_ok-mounted.ensures.some
