use Rattle.std.proofs.Common.{rules}
use Rattle.asm_text.proofs.CutLaws.{parts_pushed, parts_done}
use Rattle.asm_text.proofs.word.parts_of.Goals as goal

pub loop-part-preserved : goal.loop-part-preserved
loop-part-preserved c =
    parts_pushed c.args.line.now c.loop-part.parts.items _ c.loop-part.rest.now c.in-Some.part.now c.in-Some.behind.now c.loop-part.invariant c.in-Some.ensures (search rules)

pub returns : goal.returns
returns c = parts_done c.args.line.now c.loop-part.parts.items _ c.loop-part.rest.now c.loop-part.invariant c.in_default.ensures (search rules)
