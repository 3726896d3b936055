use Rattle.std.proofs.Common.{ℕ, ◌-◌, ◌+◌, ◌*◌, ◌≤◌, length}
use Rattle.byte_reader.specs.Reader.{keep, many}
use Rattle.class_file.specs.File.{member_at}
use Rattle.byte_reader.proofs.LoopLaws.{ReadsOn}
use Rattle.class_file.proofs.members.all_of.Given as goal

abbrev pub invariant-loop : goal.invariant-loop
invariant-loop g l = record {
  reads : ReadsOn (λ (state : Unit {0}) (more : ℕ). member_at l.pool l.holder) keep l.members.items tt (l.count - l.counter) l.rest (many (member_at l.pool l.holder) l.count l.bytes);
  spent : l.steps + 3 * length l.rest ≤ l.fn.steps + 3 * length l.bytes;
}
