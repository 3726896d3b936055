use Rattle.std.proofs.Common.{refl}
use Rattle.lib_table.specs.Texts.{classes}
use Rattle.lib_table.proofs.texts.text_classes.Goals as goal

pub returns : goal.returns
unfolding classes
returns c = refl
