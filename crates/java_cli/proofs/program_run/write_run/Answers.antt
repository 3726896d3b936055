use Rattle.std.proofs.Common.{refl, rules}
use Rattle.java_cli.proofs.RunLaws.{wrote_is}
use Rattle.java_cli.proofs.program_run.write_run.Goals as goal

pub returns : goal.returns
returns g c names trace carriers is printed =
    wrote_is g.O.Sink.contents g.O.Sink.faults c.args.out.now c.put_part-out_fault.new.sink g.E.Sink.contents g.E.Sink.faults c.args.err.now c.put_faults-err_fault.new.err names trace carriers c.args.history.items
    c.args.text.now c.args.error_text.now c.args.why c.args.line.now c.line_after.result.now c.args.trace_text.now c.put_part-out_fault.result c.put_faults-err_fault.result _ is c.line_after.ensures printed refl
    c.answer_with.ensures (search rules) (search rules) c.put_part-out_fault.ensures c.put_faults-err_fault.ensures.short c.put_faults-err_fault.ensures.taken
