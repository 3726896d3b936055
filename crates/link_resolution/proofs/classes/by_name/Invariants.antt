use Rattle.std.proofs.Common.{take}
use Rattle.link_resolution.specs.ClassNames.{NamesAll}
use Rattle.link_resolution.proofs.classes.by_name.Given as goal

abbrev pub invariant-loop-index : goal.invariant-loop-index
invariant-loop-index l = NamesAll (take l.index l.files) l.names
