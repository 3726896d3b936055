use Rattle.arguments.specs.Meanings.{run_meaning}
use Rattle.java_cli.proofs.AnswerLaws.{kept_exact, refused_headline, refused_out, refused_store}
use Rattle.java_cli.proofs.RunLaws.{headline_is, line_is, answer_exact, answer_store}
use Rattle.java_cli.proofs.command_run.run_program.Goals as goal

pub returns-in-Ok-clause-headline : goal.returns-in-Ok-clause-headline
returns-in-Ok-clause-headline g c =
    headline_is g.E.Sink.contents g.E.Sink.faults c.args.err.now c.run_checked.new.err (run_meaning c.args.run.now) c.run_checked.result c.run_checked.ensures.answer
    _ _ _ _ c.in-Ok.runnable c.run_limits.result c.run_limits.ensures c.in-Ok.ensures.read c.run_checked.ensures.headline

pub returns-in-Ok-clause-exact : goal.returns-in-Ok-clause-exact
returns-in-Ok-clause-exact g c =
    answer_exact _ _ (run_meaning c.args.run.now) c.in-Ok.runnable c.run_checked.result.why c.in-Ok.ensures.read c.in-Ok.ensures.due c.run_checked.ensures.answer

pub returns-in-Ok-clause-store_faults : goal.returns-in-Ok-clause-store_faults
returns-in-Ok-clause-store_faults g c = answer_store c.run_checked.result.why _ _ c.run_checked.ensures.answer c.in-Ok.ensures.kept

pub returns-in-Ok-clause-line : goal.returns-in-Ok-clause-line
returns-in-Ok-clause-line g c =
    line_is g.E.Sink.contents g.E.Sink.faults c.args.err.now c.run_checked.new.err (run_meaning c.args.run.now) c.run_checked.result c.run_checked.ensures.answer c.run_checked.ensures.line

pub returns-in-Err-clause-headline : goal.returns-in-Err-clause-headline
returns-in-Err-clause-headline g c = refused_headline _ _ c.refuse.result.why c.refuse.ensures.why c.in-Err.ensures.refusal

pub returns-in-Err-clause-out_faults : goal.returns-in-Err-clause-out_faults
returns-in-Err-clause-out_faults g c = refused_out _ c.refuse.result.why _ c.refuse.ensures.why c.in-Err.ensures.refusal

pub returns-in-Err-clause-store_faults : goal.returns-in-Err-clause-store_faults
returns-in-Err-clause-store_faults g c = refused_store _ c.refuse.result.why _ _ c.refuse.ensures.why c.in-Err.ensures.faults

pub returns-in-Err-clause-exact : goal.returns-in-Err-clause-exact
returns-in-Err-clause-exact g c = kept_exact _ _ (run_meaning c.args.run.now) _ c.refuse.result.why c.refuse.ensures.why c.in-Err.ensures.exact
