use Rattle.std.proofs.Common.{rules}
use Rattle.jvm_words.proofs.Laws.{low_byte, low_short}
use Rattle.jvm_words.proofs.words.narrow.Goals as goal

pub returns-in-Byte : goal.returns-in-Byte
returns-in-Byte c = rw c.in-Byte.is (low_byte c.args.a c.cast_signed.result c.from.result c.ranges.a (search rules) (search rules) c.cast_signed.ensures c.from.ensures)

pub returns-in-Short : goal.returns-in-Short
returns-in-Short c = rw c.in-Short.is (low_short c.args.a c.cast_signed-in-Short.result c.from-in-Short.result c.ranges.a (search rules) (search rules) c.cast_signed-in-Short.ensures c.from-in-Short.ensures)
