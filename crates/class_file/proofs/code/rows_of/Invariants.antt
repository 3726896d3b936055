use Rattle.std.proofs.Common.{ℕ, ◌-◌, ◌≤◌, length}
use Rattle.byte_reader.specs.Reader.{keep}
use Rattle.class_file.specs.Attributes.{row_at, rows_at}
use Rattle.byte_reader.proofs.LoopLaws.{ReadsOn}
use Rattle.class_file.proofs.code.rows_of.Given as goal

abbrev pub invariant-loop : goal.invariant-loop
invariant-loop l = record {
  reads : ReadsOn (λ (state : Unit {0}) (more : ℕ). row_at) keep l.rows.items tt (l.count - l.counter) l.rest (rows_at l.count l.bytes);
  less : length l.rest ≤ length l.bytes;
}
