use Rattle.std.proofs.Common.{List, subst, sym}
use Rattle.stack_maps.specs.declared.types.VType.{VType}
use Rattle.verify_instructions.specs.Marks.{AreMarkedWhere}
use Rattle.verify_instructions.proofs.StackLaws.{marked_less, marked_none}
use Rattle.verify_instructions.proofs.operand_stack.OperandStack.pop.Goals as goal
use Rattle.verify_instructions.proofs.operand_stack.OperandStack.pop.Goals.{in-Some, in-None}

pub invariant_of-self : goal.invariant_of-self
invariant_of-self c =
    let x = c.self.inside in
    elim c.match-pop.branch [
      | in-Some w ↦ marked_less x.are_marked c.pop.new.self w.in-Some.t x.made.items (subst (λ (ls : List VType). AreMarkedWhere x.are_marked ls x.made.items) w.in-Some.ensures c.self.invariant)
      | in-None w ↦ subst (λ (ls : List VType). AreMarkedWhere x.are_marked ls x.made.items) (sym w.in-None.ensures.1) (marked_none x.are_marked x.made.items)
    ]
