use Rattle.type_paths.proofs.PathLaws.{above_top, above_twice}
use Rattle.verify_frames.proofs.SkipLaws.{found_in}
use Rattle.verify_frames.proofs.skips.type_in.Goals as goal

pub returns-then-slot-first : goal.returns-then-slot-first
returns-then-slot-first c =
    found_in c.args.paths.now c.args.from c.loop.node c.args.slot c.in_ok-first.first c.in_ok-top.top c.in_ok-top-2.field-0 c.type_of_slot.result c.loop.invariant c.in_ok-top.ensures c.in_ok-top-2.was c.in_ok-first.ensures c.type_of_slot.ensures

pub loop-preserved : goal.loop-preserved
loop-preserved c =
    let ps = c.args.paths.now in
    above_twice ps c.args.from c.loop.node c.further-node.result c.loop.invariant (c.further-node.ensures (above_top ps c.loop.node c.in_ok-top.top c.in_ok-top.ensures))
