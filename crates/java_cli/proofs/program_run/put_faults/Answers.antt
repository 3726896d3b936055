use Rattle.std.proofs.Common.{◌++◌, subst}
use Rattle.answers.specs.Taken.{Takes}
use Rattle.answers.proofs.TakenLaws.{all_told}
use Rattle.java_cli.proofs.program_run.put_faults.Goals as goal

pub returns-in-None-clause-taken : goal.returns-in-None-clause-taken
returns-in-None-clause-taken g c =
    all_told _ _ c.args.err.now c.put_part.new.sink c.put_both.new.sink (c.args.line.now ++ c.args.trace_text.now) c.args.text.now
    (subst (Takes g.E.Sink.contents g.E.Sink.faults c.args.err.now c.put_part.new.sink c.args.text.now) c.in-None.is c.put_part.ensures) c.put_both.ensures
