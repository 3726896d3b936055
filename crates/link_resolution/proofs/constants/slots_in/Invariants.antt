use Rattle.std.proofs.Common.{◌≡◌, ◌+◌, ◌*◌, ◌≤◌, false, drop}
use Rattle.link_rules.specs.Constants.{slots_in}
use Rattle.link_resolution.proofs.constants.slots_in.Given as goal

abbrev pub invariant-loop-unit : goal.invariant-loop-unit
invariant-loop-unit l = (l.slots + slots_in l.inside l.array (drop l.unit-index l.units) ≡ slots_in false false l.units) × (l.slots ≤ 2 * l.unit-index)
