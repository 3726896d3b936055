use Rattle.std.proofs.Common.{◌≡◌, ◌-◌, ◌*◌, ◌≤◌, length}
use Rattle.stack_maps.specs.Changes.{locals_behind}
use Rattle.stack_maps.specs.Readers.{changes_at}
use Rattle.stack_maps.proofs.LoopLaws.{FramesOn}
use Rattle.stack_maps.proofs.map.frames_of.Given as goal

abbrev pub invariant-loop : goal.invariant-loop
invariant-loop l = record {
  pc_fits : l.next ≤ l.counter * 65536;
  counted : l.locals ≡ length (locals_behind l.first.locals l.frames.items);
  reads_on : FramesOn l.first.locals l.frames.items l.next (l.count - l.counter) l.rest (changes_at l.first l.count l.bytes);
}
