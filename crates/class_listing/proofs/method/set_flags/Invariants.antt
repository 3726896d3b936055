use Rattle.std.proofs.Common.{◌≡◌, drop}
use Rattle.class_listing.specs.Methods.{with_flags}
use Rattle.class_listing.proofs.method.set_flags.Given as goal

abbrev pub invariant-loop-pc : goal.invariant-loop-pc
invariant-loop-pc l = with_flags l.initial.flags l.named ≡ with_flags l.flags (drop l.pc-index l.named)
