use Rattle.std.proofs.Common.{ℕ, ◌-◌, Bool, false, ◌+◌, ◌*◌, ◌≤◌, length}
use Rattle.class_file.specs.Attributes.{extra_at, next_extra, extras_at}
use Rattle.byte_reader.proofs.LoopLaws.{ReadsOn}
use Rattle.class_file.proofs.code.extras_of.Given as goal

abbrev pub invariant-loop : goal.invariant-loop
invariant-loop g l = record {
  reads : ReadsOn (λ (seen : Bool) (more : ℕ). extra_at l.pool seen) next_extra l.extras.items l.seen (l.count - l.counter) l.rest (extras_at l.pool false l.count l.bytes);
  spent : l.steps + 3 * length l.rest ≤ l.fn.steps + 3 * length l.bytes;
}
