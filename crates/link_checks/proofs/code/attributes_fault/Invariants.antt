use Rattle.std.proofs.Common.{◌≡◌, drop}
use Rattle.items.specs.First.{first_in}
use Rattle.link_checks.specs.ConstantUses.{AreFine}
use Rattle.link_checks.specs.Firsts.{attribute_why}
use Rattle.link_checks.proofs.code.attributes_fault.Given as goal

abbrev pub invariant-loop-attribute : goal.invariant-loop-attribute
invariant-loop-attribute l =
    AreFine l.namer.world.now l.namer.class l.namer.pool.now l.fine
    × (first_in (attribute_why l.namer.world.now l.namer.class l.namer.pool.now) l.attributes ≡ first_in (attribute_why l.namer.world.now l.namer.class l.namer.pool.now) (drop l.attribute-index l.attributes))
