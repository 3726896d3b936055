use Rattle.std.proofs.Common.{refl}
use Rattle.lib_table.specs.System.{classes}
use Rattle.lib_table.proofs.system.system_classes.Goals as goal

pub returns : goal.returns
unfolding classes
returns c = refl
