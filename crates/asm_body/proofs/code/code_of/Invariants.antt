use Rattle.std.proofs.Common.{◌≡◌, [], drop}
use Rattle.asm_code.specs.Places.{place_of}
use Rattle.asm_body.specs.Bodies.{put_all}
use Rattle.asm_body.proofs.code.code_of.Given as goal

abbrev pub invariant-loop-instruction : goal.invariant-loop-instruction
invariant-loop-instruction l =
    put_all (place_of l.labels) l.instructions [] ≡ put_all (place_of l.labels) (drop l.instruction-index l.instructions) l.code.items
