use Rattle.std.proofs.Common.{◌∙◌, refl, ap}
use Rattle.continuation.specs.Continuation.{Continuation}
use Rattle.interp_local.specs.Runs.{frame_of}
use Rattle.interp_local.proofs.TopLaws.{Lent, after, before, fits_in, lent_of, stands_in, stops_so, top_of}
use Rattle.interp_local.proofs.run.run_top.Goals as goal

pub run_frame-stop-requires : goal.run_frame-stop-requires
run_frame-stop-requires g c =
    let w = c.args.p.now in
    let s = c.args.m.now.stack in
    let x = top_of w s c.requires in
    let slots = c.slots-slots.result.now in
    let t = c.top_frame-top.result in
    let lent : Lent w s t slots = record { top = c.top_frame-top.ensures; slots_are = c.slots-slots.ensures.value } in
    record { fits = fits_in w s x t slots lent; stands = stands_in w s x t slots lent }

pub returns-clause-stops : goal.returns-clause-stops
returns-clause-stops g c =
    let w = c.args.p.now in
    let s = c.args.m.now.stack in
    let x = top_of w s c.requires in
    let slots = c.slots-slots.result.now in
    let t = c.top_frame-top.result in
    let lent : Lent w s t slots = record { top = c.top_frame-top.ensures; slots_are = c.slots-slots.ensures.value } in
    let stop = c.run_frame-stop.result in
    let new = c.run_frame-stop.new.slots in
    let ran = c.run_frame-stop.ensures in
    let is = ap (λ (m : Continuation). m.stack.frames) c.set_pc_and_operands.ensures ∙ after w s x t slots new stop.pc stop.used lent c.run_frame-stop.auto.slots in
    stops_so w s x (frame_of t.layout t.pc (lent_of t slots) t.operands) (frame_of t.layout stop.pc new stop.used) stop _ (before w s x t slots lent) refl ran.ran ran.stands ran.stays ran.next is
