use Rattle.std.proofs.Common.{◌≡◌, ◌++◌, drop}
use Rattle.class_listing.specs.Flags.{set_flags}
use Rattle.class_listing.proofs.flags.set_flags.Given as goal

abbrev pub invariant-loop-bit : goal.invariant-loop-bit
invariant-loop-bit l = set_flags l.rows l.bits ≡ l.flags ++ set_flags (drop l.bit-index l.rows) l.bits
