use Rattle.std.proofs.Common.{◌≡◌, ◌++◌, take}
use Rattle.thread_steps.proofs.throwing.push_ascii.Given as goal

abbrev pub invariant-loop-byte : goal.invariant-loop-byte
invariant-loop-byte l = l.units.items ≡ l.initial.units.items ++ take l.byte-index l.text
