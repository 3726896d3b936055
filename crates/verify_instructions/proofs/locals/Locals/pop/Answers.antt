use Rattle.std.proofs.Common.{◌≡◌, List, length, subst, arith}
use Rattle.stack_maps.specs.declared.types.VType.{VType}
use Rattle.verify_instructions.specs.Unfinished.{AreListed}
use Rattle.verify_instructions.proofs.StackLaws.{popped_listed}
use Rattle.verify_instructions.proofs.locals.Locals.pop.Goals as goal

pub invariant_of-self-2 : goal.invariant_of-self-2
invariant_of-self-2 c =
    let x = c.self.inside in
    let now = c.pop.new.self.items in
    let past : length now ≡ c.len-slot.result = omega arith in
    c.unlist.ensures now past
    (popped_listed x.unfinished.items now c.in-Some.t (subst (λ (ls : List VType). AreListed x.unfinished.items ls) c.in-Some.ensures.items c.self.invariant))
