use Rattle.std.proofs.Common.{rules, w32, ap, Some}
use Rattle.std.proofs.lemmas.Int.{wrapping_add_is, wrapping_sub_is}
use Rattle.jvm_words.proofs.Laws.{int_quotient, int_shl_result}
use Rattle.jvm_words.proofs.words.i_binary.Goals as goal

pub returns-in-Add : goal.returns-in-Add
returns-in-Add c = rw c.in-Add.is (ap Some (wrapping_add_is w32 c.args.a c.args.b c.ranges.a c.ranges.b))

pub returns-in-Sub : goal.returns-in-Sub
returns-in-Sub c = rw c.in-Sub.is (ap Some (wrapping_sub_is w32 c.args.a c.args.b c.ranges.a c.ranges.b))

pub returns-else-b-eq0 : goal.returns-else-b-eq0
returns-else-b-eq0 c = rw c.in-Div.is (int_quotient c.args.a c.args.b c.wrapping_div.result c.ranges.a c.ranges.b (search rules) c.if-b-eq0.false c.wrapping_div.ensures)

pub returns-in-Shl : goal.returns-in-Shl
returns-in-Shl c = rw c.in-Shl.is (ap Some (int_shl_result c.args.a c.args.b c.cast_unsigned.result c.wrapping_shl.result c.ranges.a c.ranges.b (search rules) c.cast_unsigned.ensures c.wrapping_shl.ensures))
