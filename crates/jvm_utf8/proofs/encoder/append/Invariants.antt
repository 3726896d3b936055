use Rattle.std.proofs.Common.{◌≡◌, ◌++◌, take}
use Rattle.jvm_utf8.specs.Text.{text}
use Rattle.jvm_utf8.proofs.encoder.append.Given as goal

abbrev pub invariant-loop-unit : goal.invariant-loop-unit
invariant-loop-unit l = l.bytes.items ≡ l.fn.bytes.items ++ text (take l.unit-index l.units)
