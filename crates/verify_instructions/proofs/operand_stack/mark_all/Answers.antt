use Rattle.std.proofs.Common.{refl}
use Rattle.verify_instructions.proofs.StackLaws.{marked_next}
use Rattle.verify_instructions.proofs.operand_stack.mark_all.Goals as goal

pub loop-t-preserved : goal.loop-t-preserved
loop-t-preserved c =
    marked_next c.args.types.now c.loop-t.t-index _ _ c.loop-t.made.items c.mark.new.made.items c.loop-t-test.true refl
    c.loop-t.invariant c.in_ok-mark.ensures.kept c.in_ok-mark.ensures.marked
