use Rattle.std.proofs.Common.{subst, sym, ◌∙◌}
use Rattle.vthread_state.specs.Threads.{Threads}
use Rattle.ref_model.specs.declared.request.ThreadRequest.TheVariants as requests
use Rattle.schedule_soundness.specs.PutLaws.{OthersStay}
use Rattle.program_state.specs.declared.reply.Reply.TheVariants as replies
use Rattle.program_state.specs.Replies.{Answers}
use Rattle.program_state.proofs.ChangeLaws.{daemon_is_set, daemon_of_live, daemon_throws, row_within}
use Rattle.program_state.proofs.request_changes.set_daemon.Goals as goal

pub returns-then-refuses_daemon-clause-answers : goal.returns-then-refuses_daemon-clause-answers
returns-then-refuses_daemon-clause-answers c w t =
    daemon_throws w t c.args.u c.args.state.now c.in_ok-row.row c.args.daemon c.in_ok-row.ensures (sym c.refuses_daemon.ensures ∙ c.if-refuses_daemon.true)

pub returns-then-is_live-clause-answers : goal.returns-then-is_live-clause-answers
returns-then-is_live-clause-answers c w t =
    daemon_of_live w t c.args.u c.args.state.now c.in_ok-row.row c.args.daemon c.in_ok-row.ensures (sym c.refuses_daemon.ensures ∙ c.if-refuses_daemon.false)
    (sym c.is_live.ensures ∙ c.if-is_live.true)

pub set_daemon-requires : goal.set_daemon-requires
set_daemon-requires c = row_within c.args.state.now.threads c.args.u c.in_ok-row.row c.in_ok-row.ensures

pub returns-clause-answers : goal.returns-clause-answers
returns-clause-answers c w t =
    let a = c.args.state.now in
    subst (λ (ts : Threads). Answers w (requests.SetsDaemon c.args.u c.args.daemon) (OthersStay t) t a (record a { threads = ts }) replies.Goes) (sym c.set_daemon.ensures)
    (daemon_is_set w t c.args.u a c.in_ok-row.row c.args.daemon c.daemon_after.result c.in_ok-row.ensures (sym c.refuses_daemon.ensures ∙ c.if-refuses_daemon.false)
    (sym c.is_live.ensures ∙ c.if-is_live.false) c.daemon_after.ensures)
