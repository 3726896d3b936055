use Rattle.std.proofs.Common.{refl}
use Rattle.lib_table.specs.Objects.{classes}
use Rattle.lib_table.proofs.objects.object_classes.Goals as goal

pub returns : goal.returns
unfolding classes
returns c = refl
