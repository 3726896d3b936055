use Rattle.jvm_words.proofs.Laws.{long_shl_result}
use Rattle.std.proofs.Common.{rules}
use Rattle.jvm_words.proofs.words.l_shift.Goals as goal

pub returns-in-Shl : goal.returns-in-Shl
returns-in-Shl c = rw c.in-Shl.is (long_shl_result c.args.a c.args.count c.cast_unsigned-count.result c.wrapping_shl.result c.ranges.a c.ranges.count (search rules) c.cast_unsigned-count.ensures c.wrapping_shl.ensures)
