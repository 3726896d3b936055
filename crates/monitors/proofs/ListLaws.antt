-- The two lists of a pair, where one or both of them change.
use Rattle.std.proofs.Common.{◌≡◌, ◌<◌, ℕ, List, [], ◌++◌, length, set, ◌∙◌, ap, refl, arith}
use Rattle.std.proofs.lemmas.List.{get_or-set_other, get_or-set_same}
use Rattle.std.proofs.Math.ListN.{length-set}
use Rattle.thread_lists.specs.Lists.{list_at, push}
use Rattle.monitors.specs.Records.{entry_list_of, wait_list_of}
use Rattle.monitors.proofs.RecordLaws.{KeepsLists}

pub record Paired (lists lists' : List (List ℕ)) (pair : ℕ) (entry_list wait_list : List ℕ) : Type 0 where
  pub size : length lists' ≡ length lists
  pub keeps : KeepsLists lists lists' pair
  pub entry_list_is : list_at lists' (entry_list_of pair) ≡ entry_list
  pub wait_list_is : list_at lists' (wait_list_of pair) ≡ wait_list

-- nothing changes
pub Paired-same : (lists : List (List ℕ)) (pair : ℕ) → Paired lists lists pair (list_at lists (entry_list_of pair)) (list_at lists (wait_list_of pair))
Paired-same lists pair = record { size = refl; keeps = λ k ne nw. refl; entry_list_is = refl; wait_list_is = refl }

-- one of the two changes
pub Paired-entry_list : (lists now : List (List ℕ)) (pair : ℕ) (entry_list wait_list xs : List ℕ) → wait_list_of pair < length lists → Paired lists now pair entry_list wait_list → Paired lists (set now (entry_list_of pair) xs) pair xs wait_list
Paired-entry_list lists now pair entry_list wait_list xs inside s =
    record {
      size = length-set now (entry_list_of pair) xs ∙ s.size;
      keeps = λ k ne nw. get_or-set_other now (entry_list_of pair) k xs [] ne ∙ s.keeps k ne nw;
      entry_list_is = get_or-set_same now (entry_list_of pair) xs [] (omega (arith, s.size));
      wait_list_is = get_or-set_other now (entry_list_of pair) (wait_list_of pair) xs [] (λ e. absurd (omega arith)) ∙ s.wait_list_is;
    }

pub Paired-wait_list : (lists now : List (List ℕ)) (pair : ℕ) (entry_list wait_list xs : List ℕ) → wait_list_of pair < length lists → Paired lists now pair entry_list wait_list → Paired lists (set now (wait_list_of pair) xs) pair entry_list xs
Paired-wait_list lists now pair entry_list wait_list xs inside s =
    record {
      size = length-set now (wait_list_of pair) xs ∙ s.size;
      keeps = λ k ne nw. get_or-set_other now (wait_list_of pair) k xs [] nw ∙ s.keeps k ne nw;
      entry_list_is = get_or-set_other now (wait_list_of pair) (entry_list_of pair) xs [] (λ e. absurd (omega arith)) ∙ s.entry_list_is;
      wait_list_is = get_or-set_same now (wait_list_of pair) xs [] (omega (arith, s.size));
    }

-- threads come last in line
pub Paired-push : (lists now : List (List ℕ)) (pair : ℕ) (entry_list wait_list ts : List ℕ) → wait_list_of pair < length lists → Paired lists now pair entry_list wait_list → Paired lists (push now (entry_list_of pair) ts) pair (entry_list ++ ts) wait_list
Paired-push lists now pair entry_list wait_list ts inside s =
    let t = Paired-entry_list lists now pair entry_list wait_list (list_at now (entry_list_of pair) ++ ts) inside s in
    record { size = t.size; keeps = t.keeps; entry_list_is = t.entry_list_is ∙ ap (λ xs. xs ++ ts) s.entry_list_is; wait_list_is = t.wait_list_is }

-- threads come last among those that wait
pub Paired-wait : (lists now : List (List ℕ)) (pair : ℕ) (entry_list wait_list ts : List ℕ) → wait_list_of pair < length lists → Paired lists now pair entry_list wait_list → Paired lists (push now (wait_list_of pair) ts) pair entry_list (wait_list ++ ts)
Paired-wait lists now pair entry_list wait_list ts inside s =
    let t = Paired-wait_list lists now pair entry_list wait_list (list_at now (wait_list_of pair) ++ ts) inside s in
    record { size = t.size; keeps = t.keeps; entry_list_is = t.entry_list_is; wait_list_is = t.wait_list_is ∙ ap (λ xs. xs ++ ts) s.wait_list_is }
