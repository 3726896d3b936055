use Rattle.std.proofs.Common.{◌≡◌, drop}
use Rattle.std.specs.List.{flat_map, fold}
use Rattle.link_model.specs.Numbering.{with_kind, kinds_in_member}
use Rattle.link_numbers.proofs.numbering.Numbering.add_members.Given as goal

abbrev pub invariant-loop-member : goal.invariant-loop-member
invariant-loop-member l = fold with_kind l.fn.self (flat_map (kinds_in_member l.pool) l.members) ≡ fold with_kind l.self (flat_map (kinds_in_member l.pool) (drop l.member-index l.members))
