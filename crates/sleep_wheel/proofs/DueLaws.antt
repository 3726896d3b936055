-- Those that are due, taken out one after the other.
use Rattle.std.proofs.Common.{◌≡◌, ℕ, ◌-◌, ◌<◌, false, List, [], ◌∷◌, ◌++◌, length, get_or, map, Option, Some, None, refl, sym, ap, subst, ◌∙◌, arith, length-append, append-nil}
use Rattle.std.specs.Prelude.{slice_set, IsPermutation, IsSorted}
use Rattle.std.specs.List.{filter}
use Rattle.std.specs.Ordering.{is_lt}
use Rattle.std.proofs.lemmas.List.{map-append}
use Rattle.std.proofs.Math.Seq.{get_or-append_seam}
use Rattle.std.proofs.lemmas.List.Sorted.{IsPermutation-refl, IsPermutation-pop_more}
use Rattle.sleep_wheel.specs.declared.sleeper.Sleeper.{Sleeper}
use Rattle.sleep_wheel.specs.Sleepers.{slot_at, values_of, sleeper_cmp, is_due, left_after, IsDueList, TakesFirst, NoneDue}
use Rattle.std.proofs.lemmas.List.Kept.{IsSortedBy-push}
use Rattle.sleep_wheel.proofs.SlotLaws.{slot_kept, filter_out, filter_none, left_of_cleared, left_of_none}

abbrev pub thread_of : Sleeper → ℕ
thread_of s = s.thread

-- these threads were taken out so far
pub record DueSoFar (now : ℕ) (old slots : List (Option Sleeper)) (threads : List ℕ) : Type 0 where
  pub taken : List Sleeper
  pub threads_are : threads ≡ map thread_of taken
  pub just_these : IsPermutation (filter (is_due now) (values_of old)) (taken ++ filter (is_due now) (values_of slots))
  pub in_order : IsSorted sleeper_cmp taken
  pub later : (key : ℕ) (u : Sleeper) → slot_at slots key ≡ Some u → (d : Sleeper) → 0 < length taken → is_lt (sleeper_cmp u (get_or taken (length taken - 1) d)) ≡ false
  pub left : (key : ℕ) → left_after now (slot_at slots key) ≡ left_after now (slot_at old key)

pub due_begins : (now : ℕ) (slots : List (Option Sleeper)) → DueSoFar now slots slots []
due_begins now slots = record {
  taken = [];
  threads_are = refl;
  just_these = IsPermutation-refl _;
  in_order = λ k d low high. absurd (omega arith);
  later = λ key u e d some. absurd (omega arith);
  left = λ key. refl;
}

pub due_more : (now : ℕ) (old slots after : List (Option Sleeper)) (threads more : List ℕ) (s : Sleeper) → DueSoFar now old slots threads → TakesFirst now slots after s
    → more ≡ threads ++ s.thread ∷ [] → DueSoFar now old after more
due_more now old slots after threads more s d f pushed =
    let out = filter_out (is_due now) slots f.key s f.here f.is_due in
    let longer : length (d.taken ++ s ∷ []) - 1 ≡ length d.taken = omega (arith, length-append d.taken (s ∷ [])) in
    let made : DueSoFar now old (slice_set slots f.key None) more = record {
      taken = d.taken ++ s ∷ [];
      threads_are = pushed ∙ ap (λ (t : List ℕ). t ++ s.thread ∷ []) d.threads_are ∙ sym (map-append thread_of d.taken (s ∷ []));
      just_these = IsPermutation-pop_more _ d.taken _ _ s d.just_these out;
      in_order = IsSortedBy-push (λ x y. is_lt (sleeper_cmp x y)) d.taken s d.in_order (λ e some. d.later f.key s f.here e some);
      later = λ key u here e some.
          let last : get_or (d.taken ++ s ∷ []) (length (d.taken ++ s ∷ []) - 1) e ≡ s = ap (λ (n : ℕ). get_or (d.taken ++ s ∷ []) n e) longer ∙ get_or-append_seam d.taken s [] e in
          ap (λ (x : Sleeper). is_lt (sleeper_cmp u x)) last ∙ f.first key u (slot_kept slots f.key key u here);
      left = λ key. left_of_cleared now slots f.key s f.here f.is_due key ∙ d.left key;
    } in
    subst (λ (xs : List (Option Sleeper)). DueSoFar now old xs more) (sym f.after) made

pub due_ends : (now : ℕ) (old slots : List (Option Sleeper)) (threads : List ℕ) → DueSoFar now old slots threads → NoneDue now slots → IsDueList now (values_of old) threads
due_ends now old slots threads d none = record {
  due = d.taken;
  just_these =
      let no : filter (is_due now) (values_of slots) ≡ [] = filter_none (is_due now) slots none.none in
      subst (λ (xs : List Sleeper). IsPermutation (filter (is_due now) (values_of old)) xs) (ap (λ (xs : List Sleeper). d.taken ++ xs) no ∙ append-nil d.taken) d.just_these;
  in_order = d.in_order;
  threads_are = d.threads_are;
}

pub due_leaves : (now : ℕ) (old slots : List (Option Sleeper)) (threads : List ℕ) → DueSoFar now old slots threads → NoneDue now slots
    → (key : ℕ) → slot_at slots key ≡ left_after now (slot_at old key)
due_leaves now old slots threads d none key = sym (left_of_none now slots none key (slot_at slots key) refl) ∙ d.left key
