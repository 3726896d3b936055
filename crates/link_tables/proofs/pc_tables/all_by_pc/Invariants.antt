use Rattle.std.proofs.Common.{◌≡◌, take, vec_len}
use Rattle.link_tables.specs.PcTables.{AreByPc}
use Rattle.link_tables.proofs.pc_tables.all_by_pc.Given as goal

abbrev pub invariant-loop-code : goal.invariant-loop-code
invariant-loop-code l = AreByPc (take l.code-index l.codes) l.tables.items × (vec_len l.tables ≡ l.code-index)
