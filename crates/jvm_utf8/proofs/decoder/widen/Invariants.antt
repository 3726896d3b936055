use Rattle.std.proofs.Common.{◌≡◌, ◌++◌, take, drop}
use Rattle.jvm_utf8.proofs.decoder.widen.Given as goal

abbrev pub invariant-loop-index : goal.invariant-loop-index
invariant-loop-index l = l.units ≡ take l.index l.bytes ++ drop l.index l.fn.units
