use Rattle.class_grammar.proofs.SizeLaws.{whole}
use Rattle.class_grammar.proofs.laws.items_are_whole.Goals as goal

pub returns : goal.returns
returns c = whole
