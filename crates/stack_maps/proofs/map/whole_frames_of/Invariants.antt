use Rattle.std.proofs.Common.{◌-◌, ◌*◌, ◌≤◌}
use Rattle.stack_maps.specs.Readers.{whole_frames_at}
use Rattle.stack_maps.proofs.LoopLaws.{WholeOn}
use Rattle.stack_maps.proofs.map.whole_frames_of.Given as goal

abbrev pub invariant-loop : goal.invariant-loop
invariant-loop l = record {
  pc_fits : l.next ≤ l.counter * 65536;
  reads_on : WholeOn l.first.locals l.frames.items l.next (l.count - l.counter) l.rest (whole_frames_at l.first l.count l.bytes);
}
