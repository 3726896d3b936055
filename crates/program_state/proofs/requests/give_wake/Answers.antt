use Rattle.std.proofs.Common.{sym, subst}
use Rattle.std.specs.Prelude.{IfOk}
use Rattle.ref_model.specs.declared.request.ThreadRequest.{ThreadRequest}
use Rattle.program_state.specs.declared.reply.Reply.TheVariants as replies
use Rattle.program_state.specs.Replies.{Answers}
use Rattle.program_state.specs.Waking.{LeavesWoken}
use Rattle.program_state.proofs.requests.give_wake.Goals as goal

pub returns-in-Unparks-clause-answers : goal.returns-in-Unparks-clause-answers
returns-in-Unparks-clause-answers c w =
    let t = c.args.t in
    let a = c.args.state.now in
    subst (λ (q : ThreadRequest). IfOk c.unpark.result (λ woken. Answers w q (LeavesWoken t woken) t a c.unpark.new.state replies.Goes)) (sym c.in-Unparks.is) (c.unpark.ensures.answers w)

pub returns-in-Interrupts-clause-answers : goal.returns-in-Interrupts-clause-answers
returns-in-Interrupts-clause-answers c w =
    let t = c.args.t in
    let a = c.args.state.now in
    subst (λ (q : ThreadRequest). IfOk c.interrupt.result (λ woken. Answers w q (LeavesWoken t woken) t a c.interrupt.new.state replies.Goes)) (sym c.in-Interrupts.is) (c.interrupt.ensures.answers w)
