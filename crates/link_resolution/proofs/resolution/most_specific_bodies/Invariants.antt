use Rattle.std.proofs.Common.{◌≡◌, take, filter}
use Rattle.link_rules.specs.Resolution.{is_specific_body}
use Rattle.link_resolution.proofs.resolution.most_specific_bodies.Given as goal

abbrev pub invariant-loop-at : goal.invariant-loop-at
invariant-loop-at l = l.bodies.items ≡ filter (is_specific_body l.world l.all) (take l.at-index l.all)
