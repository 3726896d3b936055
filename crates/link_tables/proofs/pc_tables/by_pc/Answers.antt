use Rattle.link_tables.proofs.PcLaws.{one_more}
use Rattle.link_tables.proofs.pc_tables.by_pc.Goals as goal

pub loop-index-preserved : goal.loop-index-preserved
loop-index-preserved c =
    one_more c.args.instrs.now c.loop-index.index c.index-instrs-index.result c.loop-index.table.items c.add_index.new.table.items c.loop-index-test.true
    c.index-instrs-index.is c.loop-index.invariant c.in_ok-add_index.ensures
