use Rattle.std.proofs.Common.{List, ap, sym, ◌∙◌, arith}
use Rattle.stack_maps.specs.declared.types.VType.{VType}
use Rattle.verify_instructions.specs.Unfinished.{type_at}
use Rattle.verify_instructions.proofs.locals.Locals.set.Goals as goal

pub invariant_of-self-2 : goal.invariant_of-self-2
invariant_of-self-2 c =
    let x = c.self.inside in
    let here = c.type_at.ensures ∙ ap (λ (ls : List VType). type_at ls c.args.n) c.deref.ensures.value in
    c.in_ok-list_once.ensures.listed x.types.items (omega arith) (sym here) c.self.invariant
