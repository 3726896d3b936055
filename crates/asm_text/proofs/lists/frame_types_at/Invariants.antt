use Rattle.std.proofs.Common.{◌-◌, length}
use Rattle.asm_text.specs.Parsing.{frame_type_at, many}
use Rattle.asm_text.proofs.ManyLaws.{SoFar}
use Rattle.asm_text.proofs.lists.frame_types_at.Given as goal

abbrev pub invariant-loop : goal.invariant-loop
invariant-loop l = SoFar frame_type_at (many frame_type_at (length l.words) l.words) (l.end - l.counter) l.frame_types l.rest
