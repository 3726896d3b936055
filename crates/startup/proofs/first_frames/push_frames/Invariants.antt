use Rattle.std.proofs.Common.{◌≡◌, ◌≤◌, Some, drop, length}
use Rattle.ref_model.specs.Opening.{frames_of}
use Rattle.startup.proofs.first_frames.push_frames.Given as goal

abbrev pub invariant-loop-i : goal.invariant-loop-i
invariant-loop-i l =
    (l.i ≤ length l.methods) × (frames_of l.program (drop l.i l.methods) l.fn.mounted.stack.frames ≡ Some l.mounted.stack.frames)
    × (l.mounted.thread ≡ l.fn.mounted.thread)

abbrev pub decreases-loop-i : goal.decreases-loop-i
decreases-loop-i l = l.i
