use Rattle.std.proofs.Common.{◌≡◌, drop}
use Rattle.asm_code.specs.Places.{place_of}
use Rattle.asm_body.specs.Bodies.{with_types}
use Rattle.asm_body.proofs.frames.put_types.Given as goal

abbrev pub invariant-loop-kind : goal.invariant-loop-kind
invariant-loop-kind l =
    with_types (place_of l.labels) l.types l.initial.map.items ≡ with_types (place_of l.labels) (drop l.kind-index l.types) l.map.items
