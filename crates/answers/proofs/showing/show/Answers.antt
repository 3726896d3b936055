use Rattle.std.proofs.Common.{subst}
use Rattle.answers.specs.Taken.{Takes}
use Rattle.answers.proofs.ShownLaws.{shown_part, shown_whole, text_part, text_whole}
use Rattle.answers.proofs.showing.show.Goals as goal

pub returns-in-None-clause-shown : goal.returns-in-None-clause-shown
returns-in-None-clause-shown g c =
    shown_whole g.O.Sink.contents g.O.Sink.faults c.args.out.now c.put_part.new.sink g.E.Sink.contents g.E.Sink.faults c.args.err.now c.args.err.now c.args.text.now c.report.result
    (subst (Takes g.O.Sink.contents g.O.Sink.faults c.args.out.now c.put_part.new.sink c.args.text.now) c.in-None.is c.put_part.ensures)
    c.report.ensures.why c.report.ensures.history c.report.ensures.out_written c.report.ensures.err_written

pub returns-in-Some-clause-shown : goal.returns-in-Some-clause-shown
returns-in-Some-clause-shown g c =
    shown_part g.O.Sink.contents g.O.Sink.faults c.args.out.now c.put_part.new.sink g.E.Sink.contents g.E.Sink.faults c.args.err.now c.put_part-in-Some.new.sink c.args.text.now c.report-in-Some.result
    c.in-Some.written c.put_part-in-Some.result
    (subst (Takes g.O.Sink.contents g.O.Sink.faults c.args.out.now c.put_part.new.sink c.args.text.now) c.in-Some.is c.put_part.ensures) c.put_part-in-Some.ensures
    c.report-in-Some.ensures.why c.report-in-Some.ensures.history c.report-in-Some.ensures.out_written c.report-in-Some.ensures.err_written

pub returns-in-None-clause-text : goal.returns-in-None-clause-text
returns-in-None-clause-text g c =
    text_whole g.O.Sink.contents g.O.Sink.faults c.args.out.now c.put_part.new.sink g.E.Sink.contents g.E.Sink.faults c.args.err.now c.args.err.now c.args.text.now c.report.result
    (subst (Takes g.O.Sink.contents g.O.Sink.faults c.args.out.now c.put_part.new.sink c.args.text.now) c.in-None.is c.put_part.ensures) c.report.ensures.why c.report.ensures.out_written

pub returns-in-Some-clause-text : goal.returns-in-Some-clause-text
returns-in-Some-clause-text g c =
    text_part g.O.Sink.contents g.O.Sink.faults c.args.out.now c.put_part.new.sink g.E.Sink.contents g.E.Sink.faults c.args.err.now c.put_part-in-Some.new.sink c.args.text.now c.report-in-Some.result
    c.in-Some.written
    (subst (Takes g.O.Sink.contents g.O.Sink.faults c.args.out.now c.put_part.new.sink c.args.text.now) c.in-Some.is c.put_part.ensures) c.report-in-Some.ensures.why c.report-in-Some.ensures.out_written
