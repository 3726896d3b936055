use Rattle.std.proofs.Common.{◌≡◌, ◌+◌, ◌-◌, ◌<◌, take, true}
use Rattle.std.specs.List.{list_all}
use Rattle.jvm_utf8.specs.Units.{is_plain}
use Rattle.class_file.proofs.plain.are_plain.Given as goal

abbrev pub invariant-loop-at : goal.invariant-loop-at
invariant-loop-at l = record { plain : list_all is_plain (take l.at l.bytes) ≡ true; near : l.at < l.count + 16 }

abbrev pub decreases-loop-at : goal.decreases-loop-at
decreases-loop-at l = l.count + 16 - l.at
