use Rattle.std.proofs.Common.{arith, subst, sym}
use Rattle.lib_table.specs.Spelled.{IsSpelled}
use Rattle.conformance.proofs.built_in_classes.are_read_back.Goals as goal

pub write-requires : goal.write-requires
write-requires c = subst IsSpelled (sym c.file-item.is) (c.requires c.loop-file.file-index c.file-item.result (omega arith))
