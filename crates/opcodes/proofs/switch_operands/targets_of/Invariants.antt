use Rattle.std.proofs.Common.{ℕ, ◌-◌}
use Rattle.byte_reader.specs.Reader.{keep}
use Rattle.byte_reader.proofs.LoopLaws.{ReadsOn}
use Rattle.opcodes.specs.Operands.{target_at, targets_at}
use Rattle.opcodes.proofs.switch_operands.targets_of.Given as goal

abbrev pub invariant-loop : goal.invariant-loop
invariant-loop l = ReadsOn (λ (state : Unit {0}) (more : ℕ). target_at l.pc) keep l.targets tt (l.count - l.counter) l.rest (targets_at l.pc l.count l.bytes)
