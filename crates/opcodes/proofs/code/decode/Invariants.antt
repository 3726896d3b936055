use Rattle.std.proofs.Common.{length}
use Rattle.opcodes.proofs.CodeLaws.{IsFront}
use Rattle.opcodes.proofs.code.decode.Given as goal

abbrev pub invariant-loop-rest : goal.invariant-loop-rest
invariant-loop-rest l = IsFront l.code l.instrs.items l.rest l.pc

abbrev pub decreases-loop-rest : goal.decreases-loop-rest
decreases-loop-rest l = length l.rest
