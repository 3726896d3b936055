use Rattle.std.proofs.Common.{refl}
use Rattle.lib_table.specs.ThreadBuilders.{classes}
use Rattle.lib_table.proofs.thread_builders.builder_classes.Goals as goal

pub returns : goal.returns
unfolding classes
returns c = refl
