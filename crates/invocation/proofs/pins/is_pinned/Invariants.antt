use Rattle.std.proofs.Common.{◌≡◌, nat_lt, drop}
use Rattle.ref_model.specs.Looks.{pins_of}
use Rattle.invocation.proofs.pins.is_pinned.Given as goal

abbrev pub invariant-loop-above : goal.invariant-loop-above
invariant-loop-above g l =
    nat_lt 0 (pins_of (g.W.EventWorld.world l.world) l.mounted.stack.frames) ≡ nat_lt 0 (pins_of (g.W.EventWorld.world l.world) (drop l.above l.mounted.stack.frames))
