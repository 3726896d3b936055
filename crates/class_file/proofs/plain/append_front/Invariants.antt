use Rattle.std.proofs.Common.{◌≡◌, ◌+◌, ◌-◌, ◌<◌, ◌++◌, take}
use Rattle.class_file.proofs.plain.append_front.Given as goal

abbrev pub invariant-loop-at : goal.invariant-loop-at
invariant-loop-at l = record { added : l.units.items ≡ l.fn.units.items ++ take l.at l.bytes; near : l.at < l.count + 16 }

abbrev pub decreases-loop-at : goal.decreases-loop-at
decreases-loop-at l = l.count + 16 - l.at
