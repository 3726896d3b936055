use Rattle.std.proofs.Common.{◌≡◌, [], None, drop}
use Rattle.asm_code.specs.Places.{place_of}
use Rattle.asm_body.specs.Bodies.{put_frames}
use Rattle.asm_body.proofs.frames.stack_map_of.Given as goal

abbrev pub invariant-loop-frame : goal.invariant-loop-frame
invariant-loop-frame l =
    put_frames (place_of l.labels) None l.frames [] ≡ put_frames (place_of l.labels) l.before (drop l.frame-index l.frames) l.map.items
