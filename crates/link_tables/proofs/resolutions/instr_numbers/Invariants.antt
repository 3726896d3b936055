use Rattle.std.proofs.Common.{map, take}
use Rattle.link_tables.specs.KnownResolutions.{Knows}
use Rattle.link_tables.specs.Linkings.{linking_in}
use Rattle.link_tables.specs.ResolutionTables.{AreNumbersOf, Extends}
use Rattle.link_model.specs.Sites.{instr_resolution}
use Rattle.link_tables.proofs.resolutions.instr_numbers.Given as goal

abbrev pub invariant-loop-instr : goal.invariant-loop-instr
invariant-loop-instr l =
    Knows (linking_in l.l) l.class l.pool l.table.items l.known
    × Extends l.fn.table.items l.table.items
    × AreNumbersOf l.table.items l.numbers.items (map (instr_resolution (linking_in l.l) l.class l.pool) (take l.instr-index l.instrs))
