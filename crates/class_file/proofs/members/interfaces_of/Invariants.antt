use Rattle.std.proofs.Common.{ℕ, ◌-◌, ◌≤◌, length}
use Rattle.byte_reader.specs.Reader.{keep, many}
use Rattle.class_file.specs.Numbers.{u2_at}
use Rattle.byte_reader.proofs.LoopLaws.{ReadsOn}
use Rattle.class_file.proofs.members.interfaces_of.Given as goal

abbrev pub invariant-loop : goal.invariant-loop
invariant-loop l = record {
  reads : ReadsOn (λ (state : Unit {0}) (more : ℕ). u2_at) keep l.interfaces.items tt (l.count - l.counter) l.rest (many u2_at l.count l.bytes);
  less : length l.rest ≤ length l.bytes;
}
