use Rattle.std.proofs.Common.{◌≡◌, false, drop}
use Rattle.link_rules.specs.Constants.{has_floating}
use Rattle.link_resolution.proofs.constants.is_floating.Given as goal

abbrev pub invariant-loop-unit : goal.invariant-loop-unit
invariant-loop-unit l = has_floating false l.descriptor ≡ has_floating l.inside (drop l.unit-index l.descriptor)
