use Rattle.std.proofs.Common.{◌≡◌, drop}
use Rattle.asm_code.specs.Encoding.{far_all}
use Rattle.asm_code.specs.Places.{place_of}
use Rattle.asm_code.proofs.offset.put_all_far.Given as goal

abbrev pub invariant-loop-name : goal.invariant-loop-name
invariant-loop-name l =
    far_all (place_of l.labels) l.pc l.names l.initial.code.items ≡ far_all (place_of l.labels) l.pc (drop l.name-index l.names) l.code.items
