use Rattle.std.proofs.Common.{subst, sym}
use Rattle.ref_model.specs.declared.request.ThreadRequest.{ThreadRequest}
use Rattle.schedule_soundness.specs.PutLaws.{OthersStay}
use Rattle.program_state.specs.declared.reply.Reply.TheVariants as replies
use Rattle.program_state.specs.declared.starting.Start.{Start}
use Rattle.program_state.specs.Replies.{Answers}
use Rattle.program_state.specs.Starting.{IsStart}
use Rattle.program_state.proofs.SeatLaws.{line_moves}
use Rattle.program_state.proofs.RequestLaws.{request_done, request_starts, start_throws}
use Rattle.program_state.proofs.requests.start_thread.Goals as goal

pub returns-in_ok-begin_thread-in-Begins-clause-made : goal.returns-in_ok-begin_thread-in-Begins-clause-made
returns-in_ok-begin_thread-in-Begins-clause-made g c =
    let w = g.W.EventWorld.world c.args.world.now in
    let m = c.args.mounted.now in
    let a = c.args.state.now in
    request_starts w c.args.pending m.thread c.args.u a c.begin_thread.new.state c.in-Begins.first m.stack.frames c.go_on.new.mounted.stack.frames c.requires.asks c.requires.starts
    (subst (λ (x : Start). IsStart w c.args.u a x) c.in-Begins.is c.in_ok-first.ensures) (c.in_ok-begin_thread-in-Begins).ensures c.go_on.ensures.frames

pub returns-in_ok-conclude_reply-in-Throws-clause-made : goal.returns-in_ok-conclude_reply-in-Throws-clause-made
returns-in_ok-conclude_reply-in-Throws-clause-made g c =
    let w = g.W.EventWorld.world c.args.world.now in
    let m = c.args.mounted.now in
    let a = c.args.state.now in
    let e = c.in-Throws.exception in
    request_done w c.args.pending m.thread a a c.conclude_reply.new.state m.stack.frames c.conclude_reply.new.mounted.stack.frames (replies.Throws e) c.requires.asks
    (subst (λ (q : ThreadRequest). Answers w q (OthersStay m.thread) m.thread a a (replies.Throws e)) (sym c.requires.starts)
    (start_throws w m.thread c.args.u a e (subst (λ (x : Start). IsStart w c.args.u a x) c.in-Throws.is c.in_ok-first.ensures)))
    (c.in_ok-conclude_reply-in-Throws).ensures.concludes

pub returns-in_ok-begin_thread-in-Begins-clause-lists : goal.returns-in_ok-begin_thread-in-Begins-clause-lists
returns-in_ok-begin_thread-in-Begins-clause-lists g c =
    line_moves c.args.u (c.in-Begins.first).monitor c.args.state.now.monitors c.begin_thread.new.state.monitors (c.in_ok-begin_thread-in-Begins).ensures.monitors
