use Rattle.std.proofs.Common.{◌+◌, List, subst, sym, arith}
use Rattle.verify_frames.specs.declared.overwritten.Overwritten.{Overwritten}
use Rattle.verify_frames.specs.Near.{Unsets}
use Rattle.verify_frames.proofs.NearLaws.{unset_one}
use Rattle.verify_frames.proofs.near.add_unset.Goals as goal

pub loop-slot-preserved : goal.loop-slot-preserved
loop-slot-preserved c =
    subst (λ (os : List Overwritten). Unsets c.args.types.now.items os c.args.from (c.loop-slot.slot + 1)) (sym c.in_ok-push.ensures.items)
    (unset_one c.args.types.now.items c.loop-slot.types.items c.args.from c.loop-slot.slot (omega (arith, c.loop-slot.auto.slot)) c.loop-slot.invariant)
