use Rattle.std.proofs.Common.{ℤ, ℕ, ◌-◌}
use Rattle.byte_reader.proofs.LoopLaws.{ReadsOn}
use Rattle.opcodes.specs.Operands.{match_at, next_floor, matches_at, below_all}
use Rattle.opcodes.proofs.switch_operands.matches_of.Given as goal

abbrev pub invariant-loop : goal.invariant-loop
invariant-loop l = ReadsOn (λ (floor : ℤ) (more : ℕ). match_at l.pc floor) next_floor l.matches l.floor (l.count - l.counter) l.rest (matches_at l.pc below_all l.count l.bytes)
