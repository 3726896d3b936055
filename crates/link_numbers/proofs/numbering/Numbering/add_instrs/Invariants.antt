use Rattle.std.proofs.Common.{◌≡◌, drop}
use Rattle.std.specs.List.{flat_map, fold}
use Rattle.link_model.specs.Numbering.{with_kind, kinds_in_instr}
use Rattle.link_numbers.proofs.numbering.Numbering.add_instrs.Given as goal

abbrev pub invariant-loop-instr : goal.invariant-loop-instr
invariant-loop-instr l = fold with_kind l.fn.self (flat_map (kinds_in_instr l.pool) l.instrs) ≡ fold with_kind l.self (flat_map (kinds_in_instr l.pool) (drop l.instr-index l.instrs))
