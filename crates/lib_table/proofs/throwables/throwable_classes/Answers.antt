use Rattle.std.proofs.Common.{refl}
use Rattle.lib_table.specs.Throwables.{classes}
use Rattle.lib_table.proofs.throwables.throwable_classes.Goals as goal

pub returns : goal.returns
unfolding classes
returns c = refl
