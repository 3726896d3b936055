use Rattle.std.proofs.Common.{◌≡◌, ℕ, ◌+◌, ◌<◌, ◌≤◌, List, [], ◌∷◌, ◌++◌, length, get_or, map, take, ap, arith}
use Rattle.std.specs.List.{sum_by}
use Rattle.std.proofs.lemmas.Grind.{common_steps}
use Rattle.std.proofs.lemmas.List.Sums.{sum_by_more}
use Rattle.class_model.specs.declared.constant.Const.{Const}
use Rattle.class_checks.specs.declared.text_roles.TextRoles.{TextRoles}
use Rattle.class_checks.specs.Costs.{judging}
use Rattle.class_checks.specs.TextRoles.{entry_roles}
use Rattle.class_checks.proofs.text_roles.roles_of.Goals as goal

one_more : (f : Const → TextRoles) (xs : List Const) (i : ℕ) (x : Const) (before : List TextRoles) → i < length xs → x ≡ get_or xs i x → before ≡ map f (take i xs) → before ++ f x ∷ [] ≡ map f (take (i + 1) xs)
one_more f xs i x before lt is so_far = grind (arith, common_steps)

more_spent : (f : Const → ℕ) (xs : List Const) (i : ℕ) (x : Const) (start before now : ℕ) → i < length xs → x ≡ get_or xs i x → before ≤ start + sum_by f (take i xs) → now ≤ before + f x → now ≤ start + sum_by f (take (i + 1) xs)
more_spent f xs i x start before now lt is so_far more = omega (arith, sum_by_more f xs i x lt, ap f is, so_far, more)

pub loop-constant-preserved : goal.loop-constant-preserved
loop-constant-preserved g c = record {
  roles = rw (c.in_ok-push.ensures.items, c.entry_roles.ensures.roles) (one_more entry_roles c.args.pool.now c.loop-constant.constant-index c.constant-item.result _ c.loop-constant-test.true c.constant-item.is c.loop-constant.invariant.roles);
  spent = more_spent judging c.args.pool.now c.loop-constant.constant-index c.constant-item.result _ _ _ c.loop-constant-test.true c.constant-item.is c.loop-constant.invariant.spent c.entry_roles.ensures.cost;
}
