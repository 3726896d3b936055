use Rattle.std.proofs.Common.{◌≡◌, ◌≤◌, ◌+◌, take, map}
use Rattle.std.specs.List.{sum_by}
use Rattle.class_checks.specs.Costs.{judging}
use Rattle.class_checks.specs.TextRoles.{entry_roles}
use Rattle.class_checks.proofs.text_roles.roles_of.Given as goal

abbrev pub invariant-loop-constant : goal.invariant-loop-constant
invariant-loop-constant g l = record {
  roles : l.roles.items ≡ map entry_roles (take l.constant-index l.pool);
  spent : l.steps ≤ l.fn.steps + sum_by judging (take l.constant-index l.pool);
}
