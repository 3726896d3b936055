use Rattle.std.proofs.Common.{arith}
use Rattle.std.specs.Int.{w64}
use Rattle.std.proofs.lemmas.Int.{wrapping_sub_onto}
use Rattle.frame_instructions.proofs.words.negated_long.Goals as goal

pub returns : goal.returns
returns c = wrapping_sub_onto w64 0 c.args.a (omega arith) c.ranges.a
