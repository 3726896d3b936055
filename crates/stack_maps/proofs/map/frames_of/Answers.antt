use Rattle.std.proofs.Common.{◌≡◌, [], Ok, arith, rules, ◌+◌, ap, sym, ◌∙◌, ◌<◌, length}
use Rattle.std.proofs.lemmas.Result.{err_from_is_err_and}
use Rattle.byte_reader.proofs.LoopLaws.{begins, is_done}
use Rattle.stack_maps.specs.Changes.{locals_behind}
use Rattle.stack_maps.specs.Readers.{change_at, behind, changes_at}
use Rattle.stack_maps.proofs.LoopLaws.{delta_frame_at, frame_more, frame_stops, last_is}
use Rattle.stack_maps.proofs.map.frames_of.Goals as goal

pub loop-init : goal.loop-init
unfolding changes_at
loop-init c =
    let none : c.new-frames.result.items ≡ [] = search rules in
    let all = begins change_at behind (record { next = 0; locals = c.args.first.now.locals }) c.args.count c.args.bytes.now in
    record { pc_fits = omega arith; counted = rw none (search rules); reads_on = rw none all }

pub returns-in_err-frame : goal.returns-in_err-frame
returns-in_err-frame c =
    let p = err_from_is_err_and c.from_residual.result c.from_residual.ensures.1 in
    rw (p.1, p.2) (frame_stops c.in_err-frame.field-0.0 c.args.first.now.locals c.loop.frames.items c.args.count c.loop.counter c.loop.next c.loop.rest.now _ c.loop-test.true (rw (← c.loop.invariant.counted) c.in_err-frame.ensures) c.loop.invariant.reads_on)

pub loop-preserved : goal.loop-preserved
loop-preserved c =
    let frame = c.in_ok-frame.frame in
    let first = c.args.first.now.locals in
    let read : delta_frame_at (length (locals_behind first c.loop.frames.items)) c.loop.rest.now ≡ Ok (frame, c.in_ok-frame.behind.now) = rw (← c.loop.invariant.counted) c.in_ok-frame.ensures in
    let more = frame_more first c.loop.frames.items c.args.count c.loop.counter c.loop.next frame c.loop.rest.now c.in_ok-frame.behind.now _ c.loop-test.true read c.loop.invariant.reads_on in
    let counted = c.in-Some.ensures (locals_behind first c.loop.frames.items) c.loop.invariant.counted ∙ sym (ap length (last_is first c.loop.frames.items (c.loop.next + frame.delta) frame.change)) in
    let small : frame.delta < 65536 = search rules in
    record { pc_fits = omega arith; counted = rw (c.in_ok-push.ensures.items, c.from.ensures) counted; reads_on = rw (c.in_ok-push.ensures.items, c.from.ensures) more }

pub returns : goal.returns
returns c = is_done c.args.count c.loop.counter c.loop-test.false c.loop.invariant.reads_on
