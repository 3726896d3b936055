use Rattle.std.proofs.Common.{refl}
use Rattle.java_cli.proofs.RunLaws.{delivered_is, unwritten_is}
use Rattle.java_cli.proofs.program_run.run_checked.Goals as goal

pub returns-in-Ok-clause-headline : goal.returns-in-Ok-clause-headline
returns-in-Ok-clause-headline g c =
    (delivered_is g.O.Sink.contents g.O.Sink.faults c.args.out.now c.deliver.new.out g.E.Sink.contents g.E.Sink.faults c.args.err.now c.deliver.new.err
    (g.C.Clock.gives c.args.clock.now) c.args.checked c.args.main c.args.limits c.args.trace c.args.carriers _ _ _ _ c.in-Ok.execution.ending c.deliver.result c.in-Ok.ensures c.deliver.ensures).headline

pub returns-in-Ok-clause-answer : goal.returns-in-Ok-clause-answer
returns-in-Ok-clause-answer g c =
    (delivered_is g.O.Sink.contents g.O.Sink.faults c.args.out.now c.deliver.new.out g.E.Sink.contents g.E.Sink.faults c.args.err.now c.deliver.new.err
    (g.C.Clock.gives c.args.clock.now) c.args.checked c.args.main c.args.limits c.args.trace c.args.carriers _ _ _ _ c.in-Ok.execution.ending c.deliver.result c.in-Ok.ensures c.deliver.ensures).answer

pub returns-in-Ok-clause-idle : goal.returns-in-Ok-clause-idle
returns-in-Ok-clause-idle g c =
    (delivered_is g.O.Sink.contents g.O.Sink.faults c.args.out.now c.deliver.new.out g.E.Sink.contents g.E.Sink.faults c.args.err.now c.deliver.new.err
    (g.C.Clock.gives c.args.clock.now) c.args.checked c.args.main c.args.limits c.args.trace c.args.carriers _ _ _ _ c.in-Ok.execution.ending c.deliver.result c.in-Ok.ensures c.deliver.ensures).idle

pub returns-in-Ok-clause-out_faults : goal.returns-in-Ok-clause-out_faults
returns-in-Ok-clause-out_faults g c =
    (delivered_is g.O.Sink.contents g.O.Sink.faults c.args.out.now c.deliver.new.out g.E.Sink.contents g.E.Sink.faults c.args.err.now c.deliver.new.err
    (g.C.Clock.gives c.args.clock.now) c.args.checked c.args.main c.args.limits c.args.trace c.args.carriers _ _ _ _ c.in-Ok.execution.ending c.deliver.result c.in-Ok.ensures c.deliver.ensures).out_faults

pub returns-in-Ok-clause-line : goal.returns-in-Ok-clause-line
returns-in-Ok-clause-line g c =
    (delivered_is g.O.Sink.contents g.O.Sink.faults c.args.out.now c.deliver.new.out g.E.Sink.contents g.E.Sink.faults c.args.err.now c.deliver.new.err
    (g.C.Clock.gives c.args.clock.now) c.args.checked c.args.main c.args.limits c.args.trace c.args.carriers _ _ _ _ c.in-Ok.execution.ending c.deliver.result c.in-Ok.ensures c.deliver.ensures).line

pub returns-in-Err-clause-headline : goal.returns-in-Err-clause-headline
returns-in-Err-clause-headline g c =
    (unwritten_is g.O.Sink.contents g.O.Sink.faults c.args.out.now c.args.out.now g.E.Sink.contents g.E.Sink.faults c.args.err.now c.no_memory.new.err
    (g.C.Clock.gives c.args.clock.now) c.args.checked c.args.main c.args.limits c.args.trace c.args.carriers c.no_memory.result (record {
      why = c.no_memory.ensures.why;
      history = c.no_memory.ensures.history;
      out_written = c.no_memory.ensures.out_written;
      err_written = c.no_memory.ensures.err_written;
      same = refl;
      line = c.no_memory.ensures.line;
    })).headline

pub returns-in-Err-clause-answer : goal.returns-in-Err-clause-answer
returns-in-Err-clause-answer g c =
    (unwritten_is g.O.Sink.contents g.O.Sink.faults c.args.out.now c.args.out.now g.E.Sink.contents g.E.Sink.faults c.args.err.now c.no_memory.new.err
    (g.C.Clock.gives c.args.clock.now) c.args.checked c.args.main c.args.limits c.args.trace c.args.carriers c.no_memory.result (record {
      why = c.no_memory.ensures.why;
      history = c.no_memory.ensures.history;
      out_written = c.no_memory.ensures.out_written;
      err_written = c.no_memory.ensures.err_written;
      same = refl;
      line = c.no_memory.ensures.line;
    })).answer

pub returns-in-Err-clause-idle : goal.returns-in-Err-clause-idle
returns-in-Err-clause-idle g c =
    (unwritten_is g.O.Sink.contents g.O.Sink.faults c.args.out.now c.args.out.now g.E.Sink.contents g.E.Sink.faults c.args.err.now c.no_memory.new.err
    (g.C.Clock.gives c.args.clock.now) c.args.checked c.args.main c.args.limits c.args.trace c.args.carriers c.no_memory.result (record {
      why = c.no_memory.ensures.why;
      history = c.no_memory.ensures.history;
      out_written = c.no_memory.ensures.out_written;
      err_written = c.no_memory.ensures.err_written;
      same = refl;
      line = c.no_memory.ensures.line;
    })).idle

pub returns-in-Err-clause-line : goal.returns-in-Err-clause-line
returns-in-Err-clause-line g c =
    (unwritten_is g.O.Sink.contents g.O.Sink.faults c.args.out.now c.args.out.now g.E.Sink.contents g.E.Sink.faults c.args.err.now c.no_memory.new.err
    (g.C.Clock.gives c.args.clock.now) c.args.checked c.args.main c.args.limits c.args.trace c.args.carriers c.no_memory.result (record {
      why = c.no_memory.ensures.why;
      history = c.no_memory.ensures.history;
      out_written = c.no_memory.ensures.out_written;
      err_written = c.no_memory.ensures.err_written;
      same = refl;
      line = c.no_memory.ensures.line;
    })).line
