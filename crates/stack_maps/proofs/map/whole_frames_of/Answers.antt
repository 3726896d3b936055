use Rattle.std.proofs.Common.{◌≡◌, [], length, arith, rules, ◌<◌, Ok}
use Rattle.std.proofs.lemmas.Result.{err_from_is_err_and}
use Rattle.byte_reader.proofs.LoopLaws.{is_done}
use Rattle.byte_reader.specs.Reader.{Stops}
use Rattle.stack_maps.specs.Changes.{locals_before, types_after}
use Rattle.stack_maps.proofs.LoopLaws.{delta_frame_at, whole_begins, whole_more, whole_stops}
use Rattle.stack_maps.proofs.map.whole_frames_of.Goals as goal

pub loop-init : goal.loop-init
loop-init c =
    let none : c.new-frames.result.items ≡ [] = search rules in
    record { pc_fits = omega arith; reads_on = rw none (whole_begins c.args.first.now c.args.count c.args.bytes.now) }

pub returns-in_err-frame : goal.returns-in_err-frame
returns-in_err-frame c =
    let first = c.args.first.now.locals in
    let p = err_from_is_err_and c.from_residual.result c.from_residual.ensures.1 in
    let before : c.locals_before-before.result.now ≡ locals_before first c.loop.frames.items = search rules in
    let stopped : Stops c.in_err-frame.field-0.0 (delta_frame_at (length (locals_before first c.loop.frames.items)) c.loop.rest.now) = rw (← before) c.in_err-frame.ensures in
    rw (p.1, p.2) (whole_stops c.in_err-frame.field-0.0 first c.loop.frames.items c.args.count c.loop.counter c.loop.next c.loop.rest.now _ c.loop-test.true stopped c.loop.invariant.reads_on)

pub loop-preserved : goal.loop-preserved
loop-preserved c =
    let first = c.args.first.now.locals in
    let frame = c.in_ok-frame.frame in
    let before : c.locals_before-before.result.now ≡ locals_before first c.loop.frames.items = search rules in
    let read : delta_frame_at (length (locals_before first c.loop.frames.items)) c.loop.rest.now ≡ Ok (frame, c.in_ok-frame.behind.now) = rw (← before) c.in_ok-frame.ensures in
    let types : c.in_ok-types.types ≡ types_after (locals_before first c.loop.frames.items) frame.change = rw (← before) c.in_ok-types.ensures in
    let more = whole_more first c.loop.frames.items c.args.count c.loop.counter c.loop.next frame c.in_ok-types.types c.loop.rest.now c.in_ok-frame.behind.now _ c.loop-test.true read types c.loop.invariant.reads_on in
    let small : frame.delta < 65536 = search rules in
    record { pc_fits = omega arith; reads_on = rw (c.in_ok-push.ensures.items, c.from.ensures) more }

pub returns : goal.returns
returns c = is_done c.args.count c.loop.counter c.loop-test.false c.loop.invariant.reads_on
