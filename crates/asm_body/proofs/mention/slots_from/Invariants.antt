use Rattle.std.proofs.Common.{◌≡◌, drop}
use Rattle.asm_body.specs.Mentions.{slots_from}
use Rattle.asm_body.proofs.mention.slots_from.Given as goal

abbrev pub invariant-loop-kind : goal.invariant-loop-kind
invariant-loop-kind l = slots_from 1 l.kinds ≡ slots_from l.count (drop l.kind-index l.kinds)
