use Rattle.std.proofs.Common.{sym, subst, ℕ}
use Rattle.program_state.specs.declared.requests.RequestOutcome.{RequestOutcome}
use Rattle.program_state.specs.declared.reply.Reply.TheVariants as replies
use Rattle.program_state.specs.Replies.{Answers}
use Rattle.program_state.specs.Requests.{IsRequestMade}
use Rattle.program_state.specs.Waking.{LeavesWoken}
use Rattle.program_state.proofs.RequestLaws.{wake_made}
use Rattle.program_state.proofs.requests.wake_thread.Goals as goal

pub returns-clause-made : goal.returns-clause-made
returns-clause-made g c =
    let w = g.W.EventWorld.world c.args.world.now in
    let q = c.args.pending in
    let m = c.args.mounted.now in
    let n = c.go_on.new.mounted in
    let a = c.args.state.now in
    let new = c.give_wake.new.state in
    let woken = c.in_ok-woken.woken in
    subst (λ (x : RequestOutcome). IsRequestMade w q x a m new n) (sym c.outcome_of.ensures)
    (wake_made w q a new m n woken c.requires.asks
    (subst (λ (t : ℕ). Answers w q.request (LeavesWoken t woken) t a new replies.Goes) c.thread.ensures (c.in_ok-woken.ensures.answers w)) c.go_on.ensures.frames)
