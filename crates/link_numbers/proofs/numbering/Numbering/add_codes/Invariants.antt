use Rattle.std.proofs.Common.{◌≡◌, drop}
use Rattle.std.specs.List.{flat_map, fold}
use Rattle.link_model.specs.Numbering.{with_kind}
use Rattle.link_numbers.specs.Decodings.{kinds_in}
use Rattle.link_numbers.proofs.numbering.Numbering.add_codes.Given as goal

abbrev pub invariant-loop-code : goal.invariant-loop-code
invariant-loop-code l = fold with_kind l.fn.self (flat_map (kinds_in l.pool) l.codes) ≡ fold with_kind l.self (flat_map (kinds_in l.pool) (drop l.code-index l.codes))
