use Rattle.link_resolution.proofs.HashLaws.{four_more}
use Rattle.link_resolution.proofs.text_numbers.hash_of.Goals as goal

pub loop-left-preserved : goal.loop-left-preserved
loop-left-preserved c = four_more c.args.text.now c.loop-left.left.now c.loop-left.hash c.mixed-hash.result c.word_of.result c.in-len4-up.len_at_least c.loop-left.invariant c.mixed-hash.ensures c.word_of.ensures
