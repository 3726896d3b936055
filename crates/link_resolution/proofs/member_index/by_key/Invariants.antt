use Rattle.std.proofs.Common.{take}
use Rattle.link_resolution.specs.KeyTexts.{IndexesAll}
use Rattle.link_resolution.proofs.member_index.by_key.Given as goal

abbrev pub invariant-loop-index : goal.invariant-loop-index
invariant-loop-index l = IndexesAll l.pool (take l.index l.members) l.map
