use Rattle.std.proofs.Common.{ap, sym}
use Rattle.vthread_state.specs.declared.thread.Thread.{Thread}
use Rattle.ref_run.proofs.LeaveLaws.{thrown_made}
use Rattle.ref_run.proofs.throwing.throw_object.Goals as goal

pub returns : goal.returns
returns g c =
    let w = g.W.EventWorld.world c.args.world.now in
    thrown_made w c.args.state.now c.take_frames.new.state c.put_frames.new.state c.args.t c.thread-name.result.name c.args.o
    c.in_ok-mounted.mounted.stack.frames c.throwing_step.new.mounted.stack.frames c.throwing_step.new.parts c.in_ok-row_at.field-0.now c.in_ok-thrown.thrown c.in_ok-mounted.ensures
    c.in_ok-row_at.ensures (ap (λ (x : Thread). x.name) (sym c.thread-name.ensures)) c.put_frames.ensures c.in_ok-thrown.ensures

pub throwing_step-requires : goal.throwing_step-requires
throwing_step-requires g c = c.in_ok-mounted.ensures.some
