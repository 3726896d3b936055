-- The lists of monitors after a step are those of the schedule.
use Rattle.std.proofs.Common.{◌≡◌, ◌≢◌, ◌⊎◌, inl, inr, eqb, ◌<◌, ◌≤◌, ◌==◌, ◌+◌, ℕ, Bool, true, false, List, [], ◌∷◌, ◌++◌, append-nil, length, Option, Some, None, refl, ap, sym, subst, ◌∙◌, ◌&&◌, not, arith, cond, drop, take}
use Rattle.std.specs.Prelude.{slice_get}
use Rattle.std.specs.List.{filter}
use Rattle.std.proofs.lemmas.Bool.{cases_Bool}
use Rattle.std.proofs.lemmas.Bool.Decides.{eqb_tells}
use Rattle.std.proofs.lemmas.List.Elements.{filter-append}
use Rattle.std.proofs.lemmas.Option.{slice_get_within}
use Rattle.thread_lists.specs.Lists.{count, without}
use Rattle.thread_lists.proofs.CountLaws.{count-append, count-other, count-same, count-without, without-first, without-none}
use Rattle.link_model.specs.World.{World}
use Rattle.monitors.specs.Monitors.{Becomes, Monitor, Monitors, monitor_of}
use Rattle.schedule_model.specs.Look.{Look, Spot, is_entering, is_live, is_waiting}
use Rattle.schedule_model.specs.Schedule.{Schedule}
use Rattle.schedule_model.specs.Puts.{all_threads, beginning_with, updated_list}
use Rattle.schedule_model.specs.Entries.{after_step, after_tick}
use Rattle.schedule_model.specs.Woken.{AreListed, once_if}
use Rattle.schedule_model.proofs.ListLaws.{IsOrder, beginning_in_order, count-filter_no, count-filter_yes}
use Rattle.schedule_model.proofs.PutLaws.{entering_live, waiting_live}
use Rattle.ref_model.specs.State.{JavaThread, State}
use Rattle.ref_model.specs.Waiting.{at_time}
use Rattle.ref_model.specs.Looks.{look_of}
use Rattle.schedule_soundness.proofs.OtherMoves.{spot_at}
use Rattle.schedule_soundness.specs.TimeLaws.{AreDue}
use Rattle.monitor_soundness.specs.ListLaws.{moved_list}
use Rattle.monitor_soundness.specs.TickLaws.{NoWaitIsOver, left_by, lined_up_by}
use Rattle.monitor_soundness.proofs.Filters.{filter_all, filter_none}
use Rattle.monitor_soundness.proofs.ListLaws.{all_kept, list_stays, one_moves, only_kept, stays_off}
use Rattle.monitor_soundness.proofs.TickLaws.{ticks_move_the_due}
use Rattle.program_state.specs.Monitors.{HoldsMonitors, ListsMove, stay, lines_up, retakes, waits, wait_ends, notifies, notifies_all}
use Rattle.program_state.specs.Times.{DueMove}
use Rattle.machine.specs.Lists.{HasLists}

-- ---- how one list changes

-- It stays; a thread comes last to it; a thread leaves it; its first leaves it; all do; the first of another comes last to it, or all of that do.
data Changes (list new first : List ℕ) : Type 0 where
  same : new ≡ list → Changes list new first
  last : (u : ℕ) → new ≡ list ++ u ∷ [] → Changes list new first
  gone : (u : ℕ) → new ≡ without u list → Changes list new first
  first_gone : new ≡ drop 1 list → Changes list new first
  first_comes : new ≡ list ++ take 1 first → Changes list new first
  all_gone : new ≡ [] → Changes list new first
  all_come : new ≡ list ++ first → Changes list new first

-- who is there once, or isn't
once_true : (b : Bool) → 0 < once_if b → b ≡ true
once_true true h = refl
once_true false h = absurd (omega arith)

once_false : (b : Bool) → once_if b ≡ 0 → b ≡ false
once_false true h = absurd (omega arith)
once_false false h = refl

once_most : (b : Bool) → once_if b ≤ 1
once_most true = omega arith
once_most false = omega arith

once_same : (a b : Bool) → once_if a ≡ once_if b → a ≡ b
once_same true b h = sym (once_true b (omega (arith, h)))
once_same false b h = sym (once_false b (sym h))

module _ (belongs : Spot → Bool) (before after : Look) (first list new : List ℕ) (listed : (t : ℕ) → count t list ≡ once_if (belongs (before.spot t)))
    (listed_then : (t : ℕ) → count t new ≡ once_if (belongs (after.spot t))) (made : (t : ℕ) → belongs (after.spot t) ≡ true → t < after.threads)
    (firsts : (t : ℕ) → count t first ≤ 1) where
  abbrev order : List ℕ
  order = beginning_with first after

  abbrev updated : List ℕ
  updated = updated_list belongs before after order list

  in_order : IsOrder after order
  in_order = beginning_in_order first after firsts

  stays_as : (t : ℕ) → count t new ≡ count t list → belongs (after.spot t) ≡ belongs (before.spot t)
  stays_as t e = once_same (belongs (after.spot t)) (belongs (before.spot t)) (sym (listed_then t) ∙ e ∙ listed t)

  list_same : new ≡ list → updated ≡ list
  list_same e = list_stays belongs before after order list listed (λ t. stays_as t (ap (count t) e))

  -- one thread goes elsewhere
  moves : (u : ℕ) → ((t : ℕ) → t ≢ u → count t new ≡ count t list) → updated ≡ moved_list belongs u (before.spot u) (after.spot u) list
  moves u others =
      one_moves belongs before after order list listed u (λ t ne. stays_as t (others t ne)) (λ here. in_order.once u (made u here))

  moved_as : (u : ℕ) (was is : Bool) → belongs (before.spot u) ≡ was → belongs (after.spot u) ≡ is
      → moved_list belongs u (before.spot u) (after.spot u) list ≡ cond is (cond was list (list ++ u ∷ [])) (cond was (without u list) list)
  moved_as u was is was_is is_is =
      ap (λ b. cond b (cond (belongs (before.spot u)) list (list ++ u ∷ [])) (cond (belongs (before.spot u)) (without u list) list)) is_is
      ∙ ap (λ b. cond is (cond b list (list ++ u ∷ [])) (cond b (without u list) list)) was_is

  comes_last : (u : ℕ) → new ≡ list ++ u ∷ [] → updated ≡ list ++ u ∷ []
  comes_last u e = moves u others ∙ moved_as u false true was is
    where
      all : (t : ℕ) → count t new ≡ count t list + count t (u ∷ [])
      all t = ap (count t) e ∙ count-append t list (u ∷ [])

      none : (t : ℕ) → count t [] ≡ 0
      none t = refl

      others : (t : ℕ) → t ≢ u → count t new ≡ count t list
      others t ne = omega (arith, all t, count-other t u [] (λ i. ne (sym i)), none t)

      is : belongs (after.spot u) ≡ true
      is = once_true (belongs (after.spot u)) (omega (arith, all u, count-same u [], listed_then u))

      was : belongs (before.spot u) ≡ false
      was =
          once_false (belongs (before.spot u))
          (omega (arith, all u, count-same u [], listed_then u, once_most (belongs (after.spot u)), listed u))

  leaves : (u : ℕ) → new ≡ without u list → updated ≡ without u list
  leaves u e = moves u others ∙ by (cases_Bool (belongs (before.spot u)))
    where
      others : (t : ℕ) → t ≢ u → count t new ≡ count t list
      others t ne = elim (eqb_tells t u) [
        | inl me ↦ absurd (ne me.1)
        | inr other ↦ ap (count t) e ∙ count-filter_yes t (λ x. not (x == u)) list (ap not other.0)
      ]

      is : belongs (after.spot u) ≡ false
      is = once_false (belongs (after.spot u)) (sym (listed_then u) ∙ ap (count u) e ∙ count-without u list)

      by : (belongs (before.spot u) ≡ true) ⊎ (belongs (before.spot u) ≡ false)
          → moved_list belongs u (before.spot u) (after.spot u) list ≡ without u list
      by (inl was) = moved_as u true false was is
      by (inr off) = moved_as u false false off is ∙ sym (without-none u list (listed u ∙ ap once_if off))

  first_leaves : (xs : List ℕ) → list ≡ xs → new ≡ drop 1 list → updated ≡ drop 1 list
  first_leaves [] is e =
      let none : drop 1 list ≡ list = ap (drop 1) is ∙ sym is in
      list_same (e ∙ none) ∙ sym none
  first_leaves (x ∷ xs) is e =
      let once : count x list ≤ 1 = omega (arith, listed x, once_most (belongs (before.spot x))) in
      let left : without x list ≡ drop 1 list = without-first list x (ap (λ ys. slice_get ys 0) is) once in
      leaves x (e ∙ sym left) ∙ left

  first_last : (xs : List ℕ) → first ≡ xs → new ≡ list ++ take 1 first → updated ≡ list ++ take 1 first
  first_last [] is e =
      let none : list ++ take 1 first ≡ list = ap (λ ys. list ++ take 1 ys) is ∙ append-nil list in
      list_same (e ∙ none) ∙ sym none
  first_last (x ∷ xs) is e =
      let one : list ++ take 1 first ≡ list ++ x ∷ [] = ap (λ ys. list ++ take 1 ys) is in
      comes_last x (e ∙ one) ∙ sym one

  all_leave : new ≡ [] → updated ≡ []
  all_leave e =
      only_kept belongs before after order list listed (λ t there. ap (λ b. b && not (belongs (before.spot t))) (off t))
      ∙ filter_none (λ t. belongs (after.spot t)) list (λ t there. off t)
    where
      off : (t : ℕ) → belongs (after.spot t) ≡ false
      off t = once_false (belongs (after.spot t)) (sym (listed_then t) ∙ ap (count t) e)

  all_last : new ≡ list ++ first → updated ≡ list ++ first
  all_last e =
      all_kept belongs before after order list listed stay_on
      ∙ ap (λ xs. list ++ xs)
      (filter-append comes first rest
      ∙ ap (λ xs. xs ++ filter comes rest) (filter_all comes first first_comes_on)
      ∙ ap (λ xs. first ++ xs) (filter_none comes rest (λ t there. rest_off t (rest_absent t there)))
      ∙ append-nil first)
    where
      comes : ℕ → Bool
      comes t = belongs (after.spot t) && not (belongs (before.spot t))

      all : (t : ℕ) → count t new ≡ count t list + count t first
      all t = ap (count t) e ∙ count-append t list first

      stay_on : (t : ℕ) → 0 < count t list → belongs (after.spot t) ≡ true
      stay_on t there = once_true (belongs (after.spot t)) (omega (arith, all t, listed_then t, there))

      first_comes_on : (t : ℕ) → 0 < count t first → comes t ≡ true
      first_comes_on t there =
          let is = once_true (belongs (after.spot t)) (omega (arith, all t, listed_then t, there)) in
          let was =
          once_false (belongs (before.spot t)) (omega (arith, all t, listed_then t, once_most (belongs (after.spot t)), listed t, there)) in
          ap (λ b. b && not (belongs (before.spot t))) is ∙ ap not was

      rest : List ℕ
      rest = filter (λ t. count t first == 0) (all_threads after)

      rest_absent : (t : ℕ) → 0 < count t rest → count t first ≡ 0
      rest_absent t there =
          elim (eqb_tells (count t first) 0) [
            | inl none ↦ none.1
            | inr some ↦ absurd (omega (arith, there, count-filter_no t (λ u. count u first == 0) (all_threads after) some.0))
          ]

      rest_off : (t : ℕ) → count t first ≡ 0 → comes t ≡ false
      rest_off t none = stays_off belongs before after order list listed t (stays_as t (omega (arith, all t, none)))

  follows : Changes list new first → updated ≡ new
  follows (same e) = list_same e ∙ sym e
  follows (last u e) = comes_last u e ∙ sym e
  follows (gone u e) = leaves u e ∙ sym e
  follows (first_gone e) = first_leaves list refl e ∙ sym e
  follows (first_comes e) = first_last first refl e ∙ sym e
  follows (all_gone e) = all_leave e ∙ sym e
  follows (all_come e) = all_last e ∙ sym e

-- ---- how each list changes

-- one monitor changes, and all others stay
of_one : (old new : Monitors) (o n : ℕ) (m : Monitor) (list : Monitor → List ℕ) → Becomes old new o m
    → Changes (list (monitor_of old o)) (list m) (monitor_of old o).wait_list
    → Changes (list (monitor_of old n)) (list (monitor_of new n)) (monitor_of old n).wait_list
of_one old new o n m list b here = by (eqb_tells n o)
  where
    by : ((eqb n o ≡ true) × (n ≡ o)) ⊎ ((eqb n o ≡ false) × (n ≢ o))
        → Changes (list (monitor_of old n)) (list (monitor_of new n)) (monitor_of old n).wait_list
    by (inl me) =
        subst (λ i. Changes (list (monitor_of old i)) (list (monitor_of new i)) (monitor_of old i).wait_list) (sym me.1)
        (subst (λ x. Changes (list (monitor_of old o)) (list x) (monitor_of old o).wait_list) (sym b.changed) here)
    by (inr other) = same (ap list (b.others n other.1))

wait_list_changes : (old new : Monitors) (n : ℕ) → ListsMove old new
    → Changes (monitor_of old n).wait_list (monitor_of new n).wait_list (monitor_of old n).wait_list
wait_list_changes old new n (stay h) = same (h.waits n)
wait_list_changes old new n (lines_up t o b) = of_one old new o n _ (λ m. m.wait_list) b (same refl)
wait_list_changes old new n (retakes t o k b) = of_one old new o n _ (λ m. m.wait_list) b (same refl)
wait_list_changes old new n (waits t o b) = of_one old new o n _ (λ m. m.wait_list) b (last t refl)
wait_list_changes old new n (wait_ends t o b) = of_one old new o n _ (λ m. m.wait_list) b (gone t refl)
wait_list_changes old new n (notifies o b) = of_one old new o n _ (λ m. m.wait_list) b (first_gone refl)
wait_list_changes old new n (notifies_all o b) = of_one old new o n _ (λ m. m.wait_list) b (all_gone refl)

entry_list_changes : (old new : Monitors) (n : ℕ) → ListsMove old new
    → Changes (monitor_of old n).entry_list (monitor_of new n).entry_list (monitor_of old n).wait_list
entry_list_changes old new n (stay h) = same (h.enters n)
entry_list_changes old new n (lines_up t o b) = of_one old new o n _ (λ m. m.entry_list) b (last t refl)
entry_list_changes old new n (retakes t o k b) = of_one old new o n _ (λ m. m.entry_list) b (gone t refl)
entry_list_changes old new n (waits t o b) = of_one old new o n _ (λ m. m.entry_list) b (same refl)
entry_list_changes old new n (wait_ends t o b) = of_one old new o n _ (λ m. m.entry_list) b (last t refl)
entry_list_changes old new n (notifies o b) = of_one old new o n _ (λ m. m.entry_list) b (first_comes refl)
entry_list_changes old new n (notifies_all o b) = of_one old new o n _ (λ m. m.entry_list) b (all_come refl)

-- ---- after a step

-- who is live was made
live_made : (w : World) (r : State) (t : ℕ) → is_live ((look_of w r).spot t) ≡ true → t < (look_of w r).threads
live_made w r t e = by (slice_get r.threads t) refl
  where
    by : (m : Option JavaThread) → slice_get r.threads t ≡ m → t < length r.threads
    by None at = let z : false ≡ true = sym (ap (λ n. is_live (spot_at n)) at) ∙ e in absurd cc
    by (Some x) at = slice_get_within r.threads t x at

module _ (w : World) (r q : State) (s : Schedule) (a b : Monitors) (was : HasLists a s) (held : HoldsMonitors a r.threads r.owners)
    (holds : HoldsMonitors b q.threads q.owners) (move : ListsMove a b) where
  waits_listed : (o t : ℕ) → count t (s.wait_list o) ≡ once_if (is_waiting o ((look_of w r).spot t))
  waits_listed o t = ap (count t) (sym (was.waits o)) ∙ held.waits t o

  enters_listed : (o t : ℕ) → count t (s.entry_list o) ≡ once_if (is_entering o ((look_of w r).spot t))
  enters_listed o t = ap (count t) (sym (was.enters o)) ∙ held.enters t o

  waits_once : (o t : ℕ) → count t (s.wait_list o) ≤ 1
  waits_once o t = omega (arith, waits_listed o t, once_most (is_waiting o ((look_of w r).spot t)))

  waits_follow : (o : ℕ)
      → updated_list (is_waiting o) (look_of w r) (look_of w q) (beginning_with (s.wait_list o) (look_of w q)) (s.wait_list o)
      ≡ (monitor_of b o).wait_list
  waits_follow o =
      follows (is_waiting o) (look_of w r) (look_of w q) (s.wait_list o) (s.wait_list o) (monitor_of b o).wait_list (waits_listed o)
      (λ t. holds.waits t o) (λ t e. live_made w q t (waiting_live o ((look_of w q).spot t) e)) (waits_once o)
      (subst (λ xs. Changes xs (monitor_of b o).wait_list xs) (was.waits o) (wait_list_changes a b o move))

  enters_follow : (o : ℕ)
      → updated_list (is_entering o) (look_of w r) (look_of w q) (beginning_with (s.wait_list o) (look_of w q)) (s.entry_list o)
      ≡ (monitor_of b o).entry_list
  enters_follow o =
      follows (is_entering o) (look_of w r) (look_of w q) (s.wait_list o) (s.entry_list o) (monitor_of b o).entry_list (enters_listed o)
      (λ t. holds.enters t o) (λ t e. live_made w q t (entering_live o ((look_of w q).spot t) e)) (waits_once o)
      (subst (λ xs. Changes xs (monitor_of b o).entry_list (s.wait_list o)) (was.enters o)
      (subst (λ xs. Changes (monitor_of a o).entry_list (monitor_of b o).entry_list xs) (was.waits o) (entry_list_changes a b o move)))

  pub lists_after_step : (c t : ℕ) (yields : Bool) → HasLists b (after_step (look_of w r) (look_of w q) s c t yields)
  lists_after_step c t yields = record { waits = λ o. sym (waits_follow o); enters = λ o. sym (enters_follow o) }

-- ---- after an entry that leaves them as they are

pub lists_stay : (a b : Monitors) (s n : Schedule) → b ≡ a → n.wait_list ≡ s.wait_list → n.entry_list ≡ s.entry_list → HasLists a s → HasLists b n
lists_stay a b s n kept_same wait_lists entry_lists h = record {
  waits = λ o. ap (λ m. (monitor_of m o).wait_list) kept_same ∙ h.waits o ∙ sym (ap (λ f. f o) wait_lists);
  enters = λ o. ap (λ m. (monitor_of m o).entry_list) kept_same ∙ h.enters o ∙ sym (ap (λ f. f o) entry_lists);
}

-- ---- after a tick

module _ (w : World) (r q : State) (s : Schedule) (now : ℕ) (due : List ℕ) (a b : Monitors) (was : HasLists a s)
    (held : HoldsMonitors a r.threads r.owners) (ticks : at_time r now ≡ Some q) (to_come : NoWaitIsOver r)
    (are_due : AreDue (look_of w r) now due) (move : DueMove w r due a b) where
  listed : AreListed (look_of w r) s
  listed = record {
    waits = λ t o. ap (count t) (sym (was.waits o)) ∙ held.waits t o;
    enters = λ t o. ap (count t) (sym (was.enters o)) ∙ held.enters t o;
  }

  pub lists_after_tick : (c : ℕ) → HasLists b (after_tick (look_of w r) (look_of w q) s c)
  lists_after_tick c = record {
    waits = λ o.
        move.waits o ∙ ap (left_by (look_of w r) o due) (was.waits o)
        ∙ sym (ticks_move_the_due w r q s now o due listed ticks to_come are_due).0;
    enters = λ o.
        move.enters o ∙ ap (lined_up_by (look_of w r) o due) (was.enters o)
        ∙ sym (ticks_move_the_due w r q s now o due listed ticks to_come are_due).1;
  }
