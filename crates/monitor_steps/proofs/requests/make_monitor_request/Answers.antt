use Rattle.std.proofs.Common.{ℕ, subst}
use Rattle.program_state.proofs.StepLaws.{if_ok}
use Rattle.vthread_state.specs.declared.phase.Phase.TheVariants.{Run}
use Rattle.ref_model.specs.Requests.{request_of}
use Rattle.monitor_steps.specs.Outcomes.{IsMade}
use Rattle.monitor_steps.specs.Replies.{AnswersSo, IsConcluded}
use Rattle.monitor_steps.proofs.ReplyLaws.{ok_lists, request_made}
use Rattle.monitor_steps.proofs.requests.make_monitor_request.Goals as goal

pub returns-clause-made : goal.returns-clause-made
returns-clause-made g c =
    let w = g.W.EventWorld.world c.args.world.now in
    let q = c.args.pending in
    let m = c.args.mounted.now in
    let a = c.args.state.now in
    let mid = c.answer.new.state in
    let new = c.conclude.new.state in
    let n = c.conclude.new.mounted in
    let reply = c.in_ok-reply.reply in
    if_ok (λ outcome. IsConcluded w q m.thread reply outcome mid m.stack.frames new n.stack.frames) (λ outcome. IsMade w outcome Run m.thread a m.stack.frames new n.stack.frames) c.conclude.result
    c.conclude.ensures.concluded
    (λ outcome concluded. request_made w q m.thread outcome a mid new m.stack.frames n.stack.frames reply c.requires.asks
    (subst (λ (t : ℕ). AnswersSo (request_of q.request) t a mid reply) c.thread.ensures c.in_ok-reply.ensures) concluded)

pub returns-clause-lists : goal.returns-clause-lists
returns-clause-lists g c =
    let w = g.W.EventWorld.world c.args.world.now in
    let q = c.args.pending in
    let m = c.args.mounted.now in
    let a = c.args.state.now in
    let mid = c.answer.new.state in
    let new = c.conclude.new.state in
    let n = c.conclude.new.mounted in
    let reply = c.in_ok-reply.reply in
    ok_lists w q m.thread a mid new m.stack.frames n.stack.frames reply c.conclude.result
    (subst (λ (t : ℕ). AnswersSo (request_of q.request) t a mid reply) c.thread.ensures c.in_ok-reply.ensures) c.conclude.ensures.concluded
