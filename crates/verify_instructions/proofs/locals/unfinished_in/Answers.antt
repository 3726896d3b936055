use Rattle.std.proofs.Common.{ap, ◌∙◌, arith}
use Rattle.stack_maps.specs.declared.types.VType.TheVariants as types
use Rattle.verify_instructions.specs.Unfinished.{listing}
use Rattle.verify_instructions.proofs.LocalLaws.{listed_all, listed_next}
use Rattle.verify_instructions.proofs.locals.unfinished_in.Goals as goal

pub loop-slot-preserved : goal.loop-slot-preserved
loop-slot-preserved c =
    let slots = c.loop-slot.slots.items in
    listed_next slots c.list.new.slots.items c.args.types.now c.loop-slot.slot
    (c.in_ok-list.ensures.listed ∙ ap (λ t. listing c.loop-slot.slot types.Top t slots) c.type_at.ensures) c.loop-slot.invariant

pub returns : goal.returns
returns c = listed_all c.loop-slot.slots.items c.args.types.now c.loop-slot.slot (omega arith) c.loop-slot.invariant
