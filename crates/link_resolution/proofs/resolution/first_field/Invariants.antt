use Rattle.std.proofs.Common.{◌≡◌, drop}
use Rattle.link_rules.specs.Members.{declared_field}
use Rattle.items.specs.First.{first_in}
use Rattle.link_resolution.specs.Keys.{key_of}
use Rattle.link_resolution.proofs.resolution.first_field.Given as goal

abbrev pub invariant-loop-class : goal.invariant-loop-class
invariant-loop-class l =
    first_in (declared_field l.world (key_of l.key)) l.classes ≡ first_in (declared_field l.world (key_of l.key)) (drop l.class-index l.classes)
