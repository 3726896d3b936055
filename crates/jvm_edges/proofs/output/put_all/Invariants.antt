use Rattle.std.proofs.Common.{◌-◌, length}
use Rattle.jvm_edges.proofs.PutLaws.{Put}
use Rattle.jvm_edges.proofs.output.put_all.Given as goal

abbrev pub invariant-loop-taken : goal.invariant-loop-taken
invariant-loop-taken g l = Put (g.S.Sink.contents l.fn.sink) (g.S.Sink.contents l.sink) (g.S.Sink.faults l.fn.sink) (g.S.Sink.faults l.sink) l.bytes l.taken

abbrev pub decreases-loop-taken : goal.decreases-loop-taken
decreases-loop-taken g l = length l.bytes - l.taken
