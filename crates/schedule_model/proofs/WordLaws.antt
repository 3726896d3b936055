-- Who is put, and which lists stay, in the words of code.
use Rattle.std.proofs.Common.{◌≡◌, ◌<◌, ◌==◌, ℕ, Bool, true, false, List, [], ◌∷◌, ◌++◌, append-nil, sym, ◌∙◌, ap, subst, refl, arith, cond, inl, inr, not, ◌&&◌, ◌||◌}
use Rattle.std.specs.List.{filter}
use Rattle.std.proofs.lemmas.Bool.Decides.{eqb_tells}
use Rattle.thread_lists.specs.Lists.{count}
use Rattle.thread_lists.proofs.CountLaws.{count-here, count-other, count-same, count-there}
use Rattle.schedule_model.specs.Look.{Look, Spot, is_entering, is_in_line, is_waiting}
use Rattle.schedule_model.specs.Schedule.{places}
use Rattle.schedule_model.specs.Puts.{is_first, is_made_enabled, is_moved_to_free, is_next_in_line, is_started, is_to_run, updated_list}
use Rattle.schedule_model.specs.Woken.{once_if}
use Rattle.schedule_model.specs.Laws.{FirstInLineRuns, ListsStay, NobodyIsPut, OneIsPut}

filter_none : (p : ℕ → Bool) (xs : List ℕ) → ((t : ℕ) → p t ≡ false) → filter p xs ≡ []
filter_none p [] h = refl
filter_none p (x ∷ xs) h = ap (λ b. cond b (x ∷ filter p xs) (filter p xs)) (h x) ∙ filter_none p xs h

filter_all : (p : ℕ → Bool) (xs : List ℕ) → ((t : ℕ) → 0 < count t xs → p t ≡ true) → filter p xs ≡ xs
filter_all p [] h = refl
filter_all p (x ∷ xs) h =
    ap (λ b. cond b (x ∷ filter p xs) (filter p xs)) (h x (count-here x xs)) ∙ ap (λ ys. x ∷ ys) (filter_all p xs (λ t there. h t (count-there t x xs there)))

-- a filter that takes one thread alone
filter_absent : (p : ℕ → Bool) (xs : List ℕ) (u : ℕ) → ((t : ℕ) → p t ≡ (t == u)) → count u xs ≡ 0 → filter p xs ≡ []
filter_absent p [] u h none = refl
filter_absent p (x ∷ xs) u h none =
    elim (eqb_tells x u) [
      | inl w ↦ absurd (omega (arith, none, subst (λ y. 0 < count y (x ∷ xs)) w.1 (count-here x xs)))
      | inr w ↦ ap (λ b. cond b (x ∷ filter p xs) (filter p xs)) (h x ∙ w.0) ∙ filter_absent p xs u h (sym (count-other u x xs w.1) ∙ none)
    ]

filter_one : (p : ℕ → Bool) (xs : List ℕ) (u : ℕ) → ((t : ℕ) → p t ≡ (t == u)) → count u xs ≡ 1 → filter p xs ≡ u ∷ []
filter_one p [] u h once = absurd (omega (arith, once))
filter_one p (x ∷ xs) u h once =
    elim (eqb_tells x u) [
      | inl w ↦
          let same : count x xs ≡ 0 = omega (arith, count-same x xs, subst (λ y. count y (x ∷ xs) ≡ 1) (sym w.1) once) in
          let rest = filter_absent p xs u h (subst (λ y. count y xs ≡ 0) w.1 same) in
          ap (λ b. cond b (x ∷ filter p xs) (filter p xs)) (h x ∙ w.0) ∙ ap (λ ys. x ∷ ys) rest ∙ ap (λ y. y ∷ []) w.1
      | inr w ↦ ap (λ b. cond b (x ∷ filter p xs) (filter p xs)) (h x ∙ w.0) ∙ filter_one p xs u h (sym (count-other u x xs w.1) ∙ once)
    ]

pub first_in_line_runs : FirstInLineRuns
first_in_line_runs before after lists t o was now =
    ap (λ x. is_started x (after.spot t) || (is_made_enabled before after t || (is_moved_to_free after x (after.spot t) || is_next_in_line before after lists t (after.spot t)))) was
    ∙ ap (λ x. is_made_enabled' x || is_next_in_line before after lists t x) now
    ∙ made (before.enabled t) (after.enabled t)
  where
    is_made_enabled' : Spot → Bool
    is_made_enabled' x = not (before.enabled t) && (after.enabled t && not (is_in_line x))

    runs : Bool
    runs = before.owned o && (not (after.owned o) && is_first (lists o) t)

    made : (a b : Bool) → ((not a && (b && false)) || runs) ≡ runs
    made true b = refl
    made false true = refl
    made false false = refl

pub nobody_is_put : NobodyIsPut
nobody_is_put before after lists s order h = filter_none (λ t. is_to_run before after lists t && (places t s == 0)) order h

pub one_is_put : OneIsPut
one_is_put before after lists s order u h once = filter_one (λ t. is_to_run before after lists t && (places t s == 0)) order u h once

list_stays : (belongs : Spot → Bool) (before after : Look) (order list : List ℕ) → ((t : ℕ) → count t list ≡ once_if (belongs (before.spot t))) → ((t : ℕ) → after.spot t ≡ before.spot t)
    → updated_list belongs before after order list ≡ list
list_stays belongs before after order list listed same =
    ap (λ xs. xs ++ filter comes order) (filter_all (λ t. belongs (after.spot t)) list stays) ∙ ap (λ xs. list ++ xs) (filter_none comes order nobody) ∙ append-nil list
  where
    comes : ℕ → Bool
    comes = λ t. belongs (after.spot t) && not (belongs (before.spot t))

    by : (b : Bool) (n : ℕ) → n ≡ once_if b → 0 < n → b ≡ true
    by true n e h = refl
    by false n e h = absurd (omega (arith, e, h))

    stays : (t : ℕ) → 0 < count t list → belongs (after.spot t) ≡ true
    stays t h = ap belongs (same t) ∙ by (belongs (before.spot t)) (count t list) (listed t) h

    neither : (b : Bool) → (b && not b) ≡ false
    neither true = refl
    neither false = refl

    nobody : (t : ℕ) → comes t ≡ false
    nobody t = ap (λ x. belongs x && not (belongs (before.spot t))) (same t) ∙ neither (belongs (before.spot t))

pub lists_stay : ListsStay
lists_stay before after s order o listed same = (
  list_stays (is_waiting o) before after order (s.wait_list o) (λ t. listed.waits t o) same,
  list_stays (is_entering o) before after order (s.entry_list o) (λ t. listed.enters t o) same,
)
