use Rattle.std.proofs.Common.{List, subst, sym, ◌∙◌}
use Rattle.type_paths.specs.Paths.{path}
use Rattle.verify_frames.specs.declared.overwritten.Overwritten.{Overwritten}
use Rattle.verify_frames.proofs.NearLaws.{Walked, walked_one}
use Rattle.verify_frames.proofs.near.types_above.Goals as goal

pub loop-node-preserved : goal.loop-node-preserved
loop-node-preserved c =
    let ps = c.args.paths.now in
    subst (λ (os : List Overwritten). Walked (path ps c.args.from) (path ps c.in-Some.top.below) os) (sym c.in_ok-add_type.ensures)
    (walked_one (path ps c.args.from) (path ps c.loop-node.node) (path ps c.in-Some.top.below) c.in-Some.top.item c.in-Some-item.t c.in-Some-slots.slot c.loop-node.types.items c.loop-node.invariant c.in-Some.ensures.is c.in-Some-item.is
    (sym c.in-Some-slots.is ∙ c.slots.ensures))
