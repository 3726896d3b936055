use Rattle.std.proofs.Common.{List, subst, sym}
use Rattle.stack_maps.specs.declared.types.VType.{VType}
use Rattle.verify_instructions.specs.Marks.{AreMarkedWhere}
use Rattle.verify_instructions.proofs.StackLaws.{marked_kept, marked_more}
use Rattle.verify_instructions.proofs.operand_stack.OperandStack.put.Goals as goal

pub invariant_of-self-in_err-push : goal.invariant_of-self-in_err-push
invariant_of-self-in_err-push c =
    let x = c.self.inside in
    let made = c.mark_where.new.made.items in
    subst (λ (ls : List VType). AreMarkedWhere c.self.inside.are_marked ls made) (sym c.in_err-push.ensures.same) (marked_kept x.are_marked x.types x.made.items made c.self.invariant c.in_ok-mark_where.ensures.kept)

pub invariant_of-self-2 : goal.invariant_of-self-2
invariant_of-self-2 c =
    let x = c.self.inside in
    let made = c.mark_where.new.made.items in
    subst (λ (ls : List VType). AreMarkedWhere c.self.inside.are_marked ls made) (sym c.in_ok-push.ensures.pushed) (marked_more x.are_marked x.types c.args.t x.made.items made c.self.invariant c.in_ok-mark_where.ensures.kept c.in_ok-mark_where.ensures.marked)
