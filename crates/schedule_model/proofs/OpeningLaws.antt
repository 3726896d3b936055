-- The schedule at the opening.
use Rattle.std.proofs.Common.{◌≡◌, ◌+◌, ◌<◌, ◌≤◌, ◌==◌, ℕ, zero, suc, Bool, true, false, List, [], ◌∷◌, None, sym, ◌∙◌, ap, subst, refl, arith, cond, inl, inr, ◌||◌, replicate}
use Rattle.std.proofs.lemmas.Bool.{or_left}
use Rattle.std.proofs.lemmas.Bool.Decides.{eqb_tells}
use Rattle.std.proofs.lemmas.List.{length-replicate}
use Rattle.std.proofs.lemmas.List.Sums.{sum_by-cons}
use Rattle.std.proofs.Math.ListN.{length-set}
use Rattle.thread_lists.specs.Lists.{count, total}
use Rattle.thread_lists.proofs.CountLaws.{count-cons, total-push}
use Rattle.schedule_model.specs.Look.{Look, IsLook, in_no_list, in_entry_list, is_live, is_entering, is_in_line, is_waiting}
use Rattle.schedule_model.specs.Schedule.{Schedule, in_deques, on_carriers, opening_schedule, places, times}
use Rattle.schedule_model.specs.Run.{Machine}
use Rattle.schedule_model.specs.Woken.{AreWoken, IsScheduled, once_if}
use Rattle.schedule_model.specs.Changes.{KeepsPromises}
use Rattle.schedule_model.proofs.PutLaws.{entering_live, no_both, waiting_live}

none_on : (t n : ℕ) → on_carriers t (opening_schedule n) ≡ 0
none_on t zero = refl
none_on t (suc n) = omega (arith, sum_by-cons (times t) None (replicate n None), none_on t n)

none_in : (t n : ℕ) → total (count t) (replicate n []) ≡ 0
none_in t zero = refl
none_in t (suc n) = omega (arith, sum_by-cons (count t) [] (replicate n []), none_in t n)

count-one : (t : ℕ) → 0 + count t (0 ∷ []) ≡ cond (0 == t) 1 0
count-one t = omega (arith, count-cons t 0 [])

main_in : (t n : ℕ) → 0 < n → in_deques t (opening_schedule n) ≡ cond (0 == t) 1 0
main_in t n h =
    let empty : List ℕ = [] in
    total-push t (replicate n empty) 0 (0 ∷ []) (omega (arith, length-replicate n empty, h))
    ∙ ap (λ k. k + count t (0 ∷ [])) (none_in t n) ∙ count-one t

module _ {S : Type 0} (m : Machine S) (promises : KeepsPromises m) (n : ℕ) (some : 0 < n) where
  abbrev first : Look
  first = m.look m.opening

  abbrev schedule : Schedule
  schedule = opening_schedule n

  -- only thread 0 is live
  is_main : (t : ℕ) → is_live (first.spot t) ≡ true → t ≡ 0
  is_main t live =
      elim (eqb_tells t 0) [ inl w ↦ w.1 | inr w ↦ absurd (no_both (is_live (first.spot t)) live (promises.alone t w.1)) ]

  at_main : (t : ℕ) → is_live (first.spot t) ≡ true → first.spot t ≡ in_no_list
  at_main t live = subst (λ u. first.spot u ≡ in_no_list) (sym (is_main t live)) promises.main

  main_placed : 0 < places 0 schedule
  main_placed = omega (arith, main_in 0 n some)

  is_false : (b : Bool) → (b ≡ true → ⊥) → b ≡ false
  is_false true h = absurd (h refl)
  is_false false h = refl

  nobody_waits : (t o : ℕ) → is_waiting o (first.spot t) ≡ false
  nobody_waits t o = is_false (is_waiting o (first.spot t)) (λ e. no_both (is_waiting o (first.spot t)) e (ap (is_waiting o) (at_main t (waiting_live o (first.spot t) e))))

  nobody_enters : (t o : ℕ) → is_entering o (first.spot t) ≡ false
  nobody_enters t o = is_false (is_entering o (first.spot t)) (λ e. no_both (is_entering o (first.spot t)) e (ap (is_entering o) (at_main t (entering_live o (first.spot t) e))))

  opens_woken : first.ended ≡ false → IsLook first → AreWoken first schedule
  opens_woken goes look =
      record {
        ready = λ t on off. subst (λ u. 0 < places u schedule) (sym (is_main t (look.live t on))) main_placed;
        line = λ t o here free. let e : in_entry_list o ≡ in_no_list = sym here ∙ at_main t (ap is_live here) in absurd cc;
        deques = λ t h.
            elim (eqb_tells 0 t) [
              | inl w ↦
                  subst (λ u. (is_live (first.spot u) ≡ true) × ((first.enabled u || is_in_line (first.spot u)) ≡ true)) w.1
                  (ap is_live promises.main, or_left (first.enabled 0) (is_in_line (first.spot 0)) (promises.main_goes goes))
              | inr w ↦
                  let none : ◌≡◌ {A = ℕ} (cond (0 == t) 1 0) 0 = ap (λ b. cond b 1 0) w.0 in
                  absurd (omega (arith, h, main_in t n some, none))
            ];
      }

  pub opens : IsScheduled first schedule
  opens =
      record {
        once = λ t. omega (arith, none_on t n, main_in t n some, le (0 == t));
        sizes = length-set _ _ _ ∙ length-replicate n [] ∙ sym (length-replicate n None);
        going = λ goes.
            record {
              listed = record {
                waits = λ t o. sym (ap once_if (nobody_waits t o));
                enters = λ t o. sym (ap once_if (nobody_enters t o));
              };
              woken = opens_woken goes (promises.looks m.opening ([], refl));
              held = record {
                pinned = λ t p. absurd (no_both (first.pinned t) p (promises.unpinned t));
                owed = λ t on owes. absurd (omega (arith, on, none_on t n));
              };
            };
      }
    where
      le : (b : Bool) → cond b 1 0 ≤ 1
      le true = omega arith
      le false = omega arith
