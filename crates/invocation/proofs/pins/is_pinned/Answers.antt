use Rattle.std.proofs.Common.{sym, ◌∙◌, arith}
use Rattle.invocation.proofs.PinLaws.{frame_passes, frame_pins}
use Rattle.invocation.proofs.pins.is_pinned.Goals as goal

pub returns-then-is_native : goal.returns-then-is_native
returns-then-is_native g c =
    let frames = c.args.mounted.now.stack.frames in
    let depth = c.depth-above-end.ensures.depth in
    sym (c.loop-above.invariant
    ∙ frame_pins (g.W.EventWorld.world c.args.world.now) frames c.loop-above.above c.method_at.result c.is_native.result (omega arith)
    c.method_at.ensures c.is_native.ensures c.if-is_native.true)

pub loop-above-preserved : goal.loop-above-preserved
loop-above-preserved g c =
    let frames = c.args.mounted.now.stack.frames in
    let depth = c.depth-above-end.ensures.depth in
    c.loop-above.invariant
    ∙ frame_passes (g.W.EventWorld.world c.args.world.now) frames c.loop-above.above c.method_at.result c.is_native.result (omega arith)
    c.method_at.ensures c.is_native.ensures c.if-is_native.false
