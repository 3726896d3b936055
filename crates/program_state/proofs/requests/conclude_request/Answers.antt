use Rattle.std.proofs.Common.{ℕ, subst}
use Rattle.schedule_soundness.specs.PutLaws.{OthersStay}
use Rattle.program_state.specs.Replies.{Answers}
use Rattle.program_state.proofs.RequestLaws.{request_done}
use Rattle.program_state.proofs.requests.conclude_request.Goals as goal

pub returns-clause-made : goal.returns-clause-made
returns-clause-made g c =
    let w = g.W.EventWorld.world c.args.world.now in
    let q = c.args.pending in
    let m = c.args.mounted.now in
    let a = c.args.state.now in
    request_done w q m.thread a c.answer.new.state c.conclude_reply.new.state m.stack.frames c.conclude_reply.new.mounted.stack.frames c.in_ok-reply.reply c.requires.asks
    (subst (λ (t : ℕ). Answers w q.request (OthersStay t) t a c.answer.new.state c.in_ok-reply.reply) c.thread.ensures (c.in_ok-reply.ensures.answers w)) c.in_ok-conclude_reply.ensures.concludes
