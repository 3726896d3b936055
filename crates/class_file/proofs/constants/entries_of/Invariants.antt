use Rattle.std.proofs.Common.{◌≡◌, ◌-◌, ◌+◌, ◌*◌, ◌≤◌, length}
use Rattle.class_file.specs.Constants.{entry_at, next_entry, all_entries_at}
use Rattle.class_file.specs.Costs.{later_of_pool}
use Rattle.class_file.specs.Texts.{with_texts, Divides}
use Rattle.byte_reader.proofs.LoopLaws.{ReadsOn}
use Rattle.class_file.proofs.constants.entries_of.Given as goal

abbrev pub invariant-loop-index : goal.invariant-loop-index
invariant-loop-index g l = record {
  reads : ReadsOn entry_at next_entry (with_texts l.marks.items l.units.items l.constants.items) l.behind (l.count - l.index) l.rest (all_entries_at l.count l.bytes);
  spent : l.steps + later_of_pool (with_texts l.marks.items l.units.items l.constants.items) + 4 * length l.rest ≤ l.fn.steps + 4 * length l.bytes;
  divides : Divides l.marks.items (length l.units.items) (length l.constants.items);
  count : length l.constants.items ≡ l.index + 1;
}
