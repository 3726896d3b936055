use Rattle.std.proofs.Common.{◌≡◌, drop}
use Rattle.std.specs.List.{flat_map, fold}
use Rattle.link_model.specs.Numbering.{with_kind, kinds_in_constant}
use Rattle.link_numbers.proofs.numbering.Numbering.add_constants.Given as goal

abbrev pub invariant-loop-constant : goal.invariant-loop-constant
invariant-loop-constant l = fold with_kind l.fn.self (flat_map (kinds_in_constant l.pool) l.pool) ≡ fold with_kind l.self (flat_map (kinds_in_constant l.pool) (drop l.constant-index l.pool))
