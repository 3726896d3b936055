use Rattle.std.proofs.Common.{◌≡◌, ◌-◌, ◌++◌, []}
use Rattle.std.specs.Option.{option_map_or}
use Rattle.link_rules.specs.Hierarchy.{climb}
use Rattle.link_resolution.specs.Tables.{parent_at}
use Rattle.link_resolution.proofs.hierarchy.climb.Given as goal

abbrev pub invariant-loop : goal.invariant-loop
invariant-loop l = l.line.items ++ option_map_or (climb (parent_at l.parents) (l.most - l.counter)) l.next [] ≡ climb (parent_at l.parents) l.most l.start
