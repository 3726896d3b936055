use Rattle.std.proofs.Common.{refl}
use Rattle.lib_table.specs.Threads.{classes}
use Rattle.lib_table.proofs.threads.thread_classes.Goals as goal

pub returns : goal.returns
unfolding classes
returns c = refl
