use Rattle.std.proofs.Common.{rules, sym, ◌∙◌}
use Rattle.std.proofs.lemmas.List.Folds.{list_all-map}
use Rattle.std.proofs.lemmas.List.Sorted.{IsNonDecreasingBy-from_sort_by_key}
use Rattle.verify_code.specs.declared.guards.Guard.{Guard}
use Rattle.verify_code.specs.Guards.{asks, guard_in, start_of}
use Rattle.verify_code.proofs.AskingLaws.{all_permuted}
use Rattle.verify_code.proofs.guards.sorted.Goals as goal

pub returns-clause-alike : goal.returns-clause-alike
returns-clause-alike c = record {
  same = λ pc test.
      list_all-map (asks pc test) guard_in c.sort_by_key.new.self.items
      ∙ all_permuted (λ (g : Guard). asks pc test (guard_in g)) c.args.guards.items c.sort_by_key.new.self.items c.sort_by_key.ensures.permutation
      ∙ sym (list_all-map (asks pc test) guard_in c.args.guards.items);
}

pub returns-clause-sorted : goal.returns-clause-sorted
returns-clause-sorted c = IsNonDecreasingBy-from_sort_by_key start_of _ c.in_ok-sort_by_key.ensures.sorted (λ a r f called. search rules)
