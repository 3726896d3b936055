-- The objects among the types so far are marked.
use Rattle.std.proofs.Common.{take}
use Rattle.verify_instructions.specs.Marks.{AreMarked}
use Rattle.verify_instructions.proofs.operand_stack.mark_all.Given as goal

abbrev pub invariant-loop-t : goal.invariant-loop-t
invariant-loop-t l = AreMarked (take l.t-index l.types) l.made.items
