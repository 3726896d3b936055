use Rattle.std.proofs.Common.{ℕ, ◌-◌, Bool, false, ◌+◌, ◌*◌, ◌≤◌, length}
use Rattle.class_file.specs.Attributes.{attribute_at, next_attribute, attributes_at}
use Rattle.byte_reader.proofs.LoopLaws.{ReadsOn}
use Rattle.class_file.proofs.attributes.attributes_of.Given as goal

abbrev pub invariant-loop : goal.invariant-loop
invariant-loop g l = record {
  reads : ReadsOn (λ (seen : Bool) (more : ℕ). attribute_at l.pool l.holder seen) next_attribute l.attributes.items l.seen (l.count - l.counter) l.rest (attributes_at l.pool l.holder false l.count l.bytes);
  spent : l.steps + 3 * length l.rest ≤ l.fn.steps + 3 * length l.bytes;
}
