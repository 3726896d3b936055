use Rattle.std.proofs.Common.{List, ap, sym, ◌∙◌}
use Rattle.std.specs.List.{list_any}
use Rattle.stack_maps.specs.declared.types.VType.{VType}
use Rattle.verify_instructions.specs.Views.{is_object}
use Rattle.verify_instructions.proofs.Lists.{any_reverse}
use Rattle.verify_instructions.proofs.operand_stack.OperandStack.has.Goals as goal

pub returns : goal.returns
returns c =
    let test = is_object c.args.object in
    c.has.ensures ∙ sym (any_reverse test c.self.inside.types) ∙ ap (λ (ls : List VType). list_any test ls) c.self.view_is
