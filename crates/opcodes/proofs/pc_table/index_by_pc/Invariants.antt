use Rattle.opcodes.proofs.IndexLaws.{IndexesSoFar}
use Rattle.opcodes.proofs.pc_table.index_by_pc.Given as goal

abbrev pub invariant-loop-index : goal.invariant-loop-index
invariant-loop-index l = IndexesSoFar l.code l.instrs l.indexes.items l.index
