use Rattle.std.proofs.Common.{◌≡◌, ◌+◌, ◌<◌, ◌++◌, take, drop}
use Rattle.std.specs.List.{sum}
use Rattle.link_numbers.specs.Starts.{starts_of}
use Rattle.link_numbers.proofs.array_numbers.starts_from.Given as goal

abbrev pub invariant-loop-size : goal.invariant-loop-size
invariant-loop-size l =
    (starts_of l.first l.sizes ≡ l.starts.items ++ starts_of l.next (drop l.size-index l.sizes))
    × (l.next ≡ l.first + sum (take l.size-index l.sizes))
    × (l.first + sum (take l.size-index l.sizes) < 4294967296)
