use Rattle.std.proofs.Common.{◌≡◌, ◌-◌, [], ◌∷◌, reverse}
use Rattle.link_rules.specs.Hierarchy.{visit}
use Rattle.link_resolution.specs.Tables.{above}
use Rattle.link_resolution.proofs.hierarchy.visit.Given as goal

abbrev pub invariant-loop : goal.invariant-loop
invariant-loop l = visit (above l.stacked) (l.most - l.counter) (reverse l.todo.items) l.seen ≡ visit (above l.stacked) l.most (l.start ∷ []) []
