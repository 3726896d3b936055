use Rattle.std.proofs.Common.{◌≡◌, ◌++◌, length}
use Rattle.asm_text.specs.Words.{parts_of}
use Rattle.asm_text.proofs.word.parts_of.Given as goal

abbrev pub invariant-loop-part : goal.invariant-loop-part
invariant-loop-part l = parts_of l.line ≡ l.parts.items ++ parts_of l.rest

abbrev pub decreases-loop-part : goal.decreases-loop-part
decreases-loop-part l = length l.rest
