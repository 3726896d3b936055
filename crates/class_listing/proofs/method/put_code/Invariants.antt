use Rattle.std.proofs.Common.{◌≡◌, drop}
use Rattle.class_listing.specs.Methods.{with_code}
use Rattle.class_listing.proofs.method.put_code.Given as goal

abbrev pub invariant-loop-instruction : goal.invariant-loop-instruction
invariant-loop-instruction l =
    with_code l.flags l.instructions l.frames l.initial.text.items ≡ with_code l.flags (drop l.instruction-index l.instructions) l.rest l.text.items
