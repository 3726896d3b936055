use Rattle.std.proofs.Common.{take}
use Rattle.link_tables.specs.PcTables.{IsByPc}
use Rattle.link_tables.proofs.pc_tables.by_pc.Given as goal

abbrev pub invariant-loop-index : goal.invariant-loop-index
invariant-loop-index l = IsByPc (take l.index l.instrs) l.table.items
