use Rattle.type_paths.specs.Paths.{path}
use Rattle.verify_frames.specs.Skips.{TakesAt}
use Rattle.verify_frames.proofs.TakeLaws.{one_more}
use Rattle.verify_frames.proofs.WantedLaws.{if_shown}
use Rattle.verify_frames.proofs.takes.takes_all.Goals as goal

pub loop-slot-preserved : goal.loop-slot-preserved
loop-slot-preserved g c =
    one_more (TakesAt (g.L.Lookups.world c.args.w.now) (path c.args.paths.now c.args.from) c.args.locals.now) c.args.slots.now c.loop-slot.slot-index c.loop-slot.invariant c.loop-slot-test.true
    (if_shown c.takes_at.result _ c.if-not-takes_at.false c.takes_at.ensures)
