use Rattle.std.proofs.Common.{Bool, false, List, ap, get_or, sym, ◌∙◌}
use Rattle.std.specs.List.{list_any}
use Rattle.stack_maps.specs.declared.types.VType.{VType}
use Rattle.verify_instructions.specs.Views.{is_object}
use Rattle.verify_instructions.proofs.Lists.{any_reverse}
use Rattle.verify_instructions.proofs.StackLaws.{not_marked}
use Rattle.verify_instructions.proofs.operand_stack.OperandStack.is_absent.Goals as goal

pub returns : goal.returns
returns c =
    let x = c.self.inside in
    let test = is_object c.args.object in
    ap (λ (ls : List VType). list_any test ls) (sym c.self.view_is)
    ∙ any_reverse test x.types
    ∙ ap (λ o. list_any (is_object o) x.types) c.in-New.is
    ∙ not_marked x.are_marked x.types x.made.items c.in-New.pc c.self.invariant c.if-not-self.false
    (sym (c.is_marked.ensures ∙ ap (λ (bs : List Bool). get_or bs c.in-New.pc false) c.deref.ensures.value) ∙ c.if-is_marked.false)
