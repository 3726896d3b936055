use Rattle.std.proofs.Common.{List, ap, subst, sym, ◌∙◌}
use Rattle.std.specs.Prelude.{reverse}
use Rattle.stack_maps.specs.declared.types.VType.{VType}
use Rattle.verify_types.specs.TypeStates.{replaced}
use Rattle.verify_instructions.specs.Marks.{AreMarkedWhere}
use Rattle.verify_instructions.specs.Views.{is_object}
use Rattle.verify_instructions.proofs.Lists.{replaced_reverse}
use Rattle.verify_instructions.proofs.StackLaws.{marked_replaced}
use Rattle.verify_instructions.proofs.operand_stack.OperandStack.replace.Goals as goal

pub invariant_of-self-2 : goal.invariant_of-self-2
invariant_of-self-2 c =
    let x = c.self.inside in
    let made = c.mark_where.new.made.items in
    subst (λ (ls : List VType). AreMarkedWhere c.self.inside.are_marked ls made) (sym c.replace.ensures) (marked_replaced x.are_marked (is_object c.args.object) x.types c.args.t x.made.items made c.self.invariant c.in_ok-mark_where.ensures.kept c.in_ok-mark_where.ensures.marked)

pub returns : goal.returns
returns c =
    let x = c.self.inside in
    let test = is_object c.args.object in
    ap (λ (ls : List VType). reverse ls) c.replace.ensures ∙ replaced_reverse test c.args.t x.types ∙ ap (λ (ls : List VType). replaced test c.args.t ls) c.self.view_is
