use Rattle.std.proofs.Common.{◌≡◌, drop}
use Rattle.std.specs.List.{fold}
use Rattle.link_model.specs.Numbering.{with_kind}
use Rattle.link_numbers.proofs.numbering.Numbering.add_kinds.Given as goal

abbrev pub invariant-loop-kind : goal.invariant-loop-kind
invariant-loop-kind l = fold with_kind l.fn.self l.kinds ≡ fold with_kind l.self (drop l.kind-index l.kinds)
