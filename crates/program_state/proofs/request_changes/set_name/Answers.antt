use Rattle.std.proofs.Common.{subst, sym}
use Rattle.vthread_state.specs.Threads.{Threads}
use Rattle.ref_model.specs.declared.request.ThreadRequest.TheVariants as requests
use Rattle.schedule_soundness.specs.PutLaws.{OthersStay}
use Rattle.program_state.specs.declared.reply.Reply.TheVariants as replies
use Rattle.program_state.specs.Replies.{Answers}
use Rattle.program_state.proofs.ChangeLaws.{name_is_set, row_within}
use Rattle.program_state.proofs.request_changes.set_name.Goals as goal

pub set_name-requires : goal.set_name-requires
set_name-requires c = row_within c.args.state.now.threads c.args.u c.in_ok-row_at.field-0 c.in_ok-row_at.ensures

pub returns-clause-answers : goal.returns-clause-answers
returns-clause-answers c w t =
    let a = c.args.state.now in
    subst (λ (ts : Threads). Answers w (requests.SetsName c.args.u c.args.name) (OthersStay t) t a (record a { threads = ts }) replies.Goes) (sym c.set_name.ensures)
    (name_is_set w t c.args.u c.args.name a c.in_ok-row_at.field-0 c.in_ok-row_at.ensures)
