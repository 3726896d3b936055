use Rattle.std.proofs.Common.{◌-◌}
use Rattle.asm_listing.specs.Numbers.{repeat}
use Rattle.asm_listing.specs.Frames.{one_frame, framed, unframed}
use Rattle.asm_listing.proofs.RepeatLaws.{GoesOnBy}
use Rattle.asm_listing.proofs.frames.frames_at.Given as goal

abbrev pub invariant-loop : goal.invariant-loop
invariant-loop l = GoesOnBy (one_frame l.pool) (framed l.so_far) (l.count - l.counter) l.rest (repeat (one_frame l.pool) l.count unframed l.bytes)
