use Rattle.std.proofs.Common.{arith}
use Rattle.stack_maps.specs.declared.types.VType.TheVariants as types
use Rattle.verify_instructions.proofs.LocalLaws.{listed_still}
use Rattle.verify_instructions.proofs.StackLaws.{push_listed}
use Rattle.verify_instructions.proofs.locals.Locals.push.Goals as goal

pub invariant_of-self-in_err-push : goal.invariant_of-self-in_err-push
invariant_of-self-in_err-push c =
    let x = c.self.inside in
    listed_still x.unfinished.items c.list.new.slots.items x.types.items c.push.new.self.items c.len.result types.Top c.args.t
    c.in_ok-list.ensures.listed c.in_err-push.ensures.items c.self.invariant

pub invariant_of-self-2 : goal.invariant_of-self-2
invariant_of-self-2 c =
    let x = c.self.inside in
    push_listed x.unfinished.items c.list.new.slots.items x.types.items c.push.new.self.items c.len.result c.args.t
    (omega arith) c.in_ok-list.ensures.listed c.in_ok-push.ensures.items c.self.invariant
