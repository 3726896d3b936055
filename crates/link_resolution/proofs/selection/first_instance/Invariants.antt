use Rattle.std.proofs.Common.{◌≡◌, drop}
use Rattle.items.specs.First.{first_in}
use Rattle.link_rules.specs.Selection.{instance_method}
use Rattle.link_resolution.specs.Keys.{key_of}
use Rattle.link_resolution.proofs.selection.first_instance.Given as goal

abbrev pub invariant-loop-class : goal.invariant-loop-class
invariant-loop-class l =
    first_in (instance_method l.world (key_of l.key)) l.classes ≡ first_in (instance_method l.world (key_of l.key)) (drop l.class-index l.classes)
