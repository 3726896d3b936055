use Rattle.std.proofs.Common.{ℕ, subst, sym}
use Rattle.program_state.specs.declared.reply.Reply.{Reply}
use Rattle.program_state.specs.Replies.{Concludes}
use Rattle.program_state.specs.Replying.{BeginsWait, IsRaised}
use Rattle.program_state.proofs.StepLaws.{on_ok}
use Rattle.program_state.proofs.ReplyLaws.{gives_concluded, goes_concluded, throws_concluded, waits_concluded}
use Rattle.program_state.proofs.replies.conclude_reply.Goals as goal

pub returns-in-Goes-clause-concludes : goal.returns-in-Goes-clause-concludes
returns-in-Goes-clause-concludes g c =
    let w = g.W.EventWorld.world c.args.world.now in
    let m = c.args.mounted.now in
    let a = c.args.state.now in
    subst (λ (x : Reply). Concludes w c.args.pending m.thread x a m.stack.frames a c.go_on.new.mounted.stack.frames) (sym c.in-Goes.is)
    (goes_concluded w c.args.pending m.thread a m.stack.frames c.go_on.new.mounted.stack.frames c.go_on.ensures.frames)

pub returns-in-Gives-clause-concludes : goal.returns-in-Gives-clause-concludes
returns-in-Gives-clause-concludes g c =
    let w = g.W.EventWorld.world c.args.world.now in
    let m = c.args.mounted.now in
    let a = c.args.state.now in
    on_ok c.go_on_with.result c.go_on_with.ensures.frames (λ goes.
    subst (λ (x : Reply). Concludes w c.args.pending m.thread x a m.stack.frames a c.go_on_with.new.mounted.stack.frames) (sym c.in-Gives.is)
    (gives_concluded w c.args.pending m.thread c.in-Gives.value a m.stack.frames c.go_on_with.new.mounted.stack.frames goes))

pub returns-in-Throws-clause-concludes : goal.returns-in-Throws-clause-concludes
returns-in-Throws-clause-concludes g c =
    let w = g.W.EventWorld.world c.args.world.now in
    let m = c.args.mounted.now in
    let a = c.args.state.now in
    let e = c.in-Throws.exception in
    let new = c.throw.new.state in
    on_ok c.throw.result c.throw.ensures.raised (λ raised.
    subst (λ (x : Reply). Concludes w c.args.pending m.thread x a m.stack.frames new m.stack.frames) (sym c.in-Throws.is)
    (throws_concluded w c.args.pending m.thread e a new m.stack.frames (subst (λ (t : ℕ). IsRaised w e t a new) c.thread-t.ensures raised)))

pub returns-in-Waits-clause-concludes : goal.returns-in-Waits-clause-concludes
returns-in-Waits-clause-concludes g c =
    let w = g.W.EventWorld.world c.args.world.now in
    let m = c.args.mounted.now in
    let a = c.args.state.now in
    let phase = c.in-Waits.phase in
    let new = c.begin_wait.new.state in
    on_ok c.begin_wait.result c.begin_wait.ensures.waits (λ waits.
    subst (λ (x : Reply). Concludes w c.args.pending m.thread x a m.stack.frames new m.stack.frames) (sym c.in-Waits.is)
    (waits_concluded w c.args.pending m.thread phase a new m.stack.frames (subst (λ (t : ℕ). BeginsWait t phase a new) c.thread-t.ensures waits)))
