-- What a step makes of the lists of monitors.
use Rattle.std.proofs.Common.{◌≡◌, ◌≢◌, ◌⊎◌, inl, inr, eqb, ◌==◌, ◌<◌, ◌≤◌, ◌+◌, ℕ, Bool, true, false, List, [], ◌∷◌, ◌++◌, append-nil, length, Option, Some, None, refl, ap, sym, subst, ◌∙◌, ◌&&◌, not, arith, cond, drop, take}
use Rattle.std.specs.Prelude.{slice_get}
use Rattle.std.specs.List.{filter}
use Rattle.std.proofs.lemmas.Bool.{cases_Bool, eq-eqb, ne_eqb}
use Rattle.std.proofs.lemmas.Bool.Decides.{eqb_tells}
use Rattle.std.proofs.lemmas.List.Elements.{filter-append}
use Rattle.std.proofs.lemmas.Option.{slice_get_within}
use Rattle.thread_lists.specs.Lists.{count, without}
use Rattle.thread_lists.proofs.CountLaws.{count-append, first-held, without-first}
use Rattle.vthread_state.proofs.RisingLaws.{counted}
use Rattle.link_model.specs.World.{World}
use Rattle.schedule_model.specs.Look.{Look, Spot, absent, unstarted, in_no_list, in_wait_list, in_entry_list, done, is_entering, is_live, is_waiting}
use Rattle.schedule_model.specs.Schedule.{Schedule}
use Rattle.schedule_model.specs.Puts.{all_threads, beginning_with, by_deadline, updated_list}
use Rattle.schedule_model.specs.Woken.{AreListed, once_if}
use Rattle.schedule_model.proofs.ListLaws.{IsOrder, beginning_in_order, by_deadline_in_order, count-filter_no, count-filter_yes}
use Rattle.schedule_model.proofs.PutLaws.{entering_at, entering_is, entering_live, no_both, waiting_live}
use Rattle.ref_model.specs.State.{JavaThread, State}
use Rattle.ref_model.specs.Looks.{look_of, spot_of}
use Rattle.schedule_soundness.specs.PutLaws.{Stays, no_thread, is_new, is_kept}
use Rattle.schedule_soundness.proofs.OtherMoves.{spot_at}
use Rattle.monitor_soundness.specs.ListLaws.{ListsBecome, OneMoves, IsWhereItWas, stayed, was_made, is_in_a_list, OtherStepsKeepLists, WhoEntersLeavesTheLine, WhoLinesUpIsLast, WhoWaitsIsLast, WhoseWaitEndsIsLast, ListedAreInLine, NotifyAllMovesAll, NotifyMovesTheFirst, OneMovesInLists, StepsKeepLists, StepsMoveOne, StepsMoveOneBeside, TicksKeepLists, entry_list_after, moved_list, wait_list_after}
use Rattle.monitor_soundness.proofs.Filters.{filter_all, filter_in, filter_none, filter_one}

-- ---- spots

pub waiting_is : (o : ℕ) (x : Spot) → is_waiting o x ≡ true → x ≡ in_wait_list o
waiting_is o absent e = absurd cc
waiting_is o unstarted e = absurd cc
waiting_is o in_no_list e = absurd cc
waiting_is o (in_wait_list n) e = by (eqb_tells n o)
  where
    by : ((eqb n o ≡ true) × (n ≡ o)) ⊎ ((eqb n o ≡ false) × (n ≢ o)) → in_wait_list n ≡ in_wait_list o
    by (inl same) = ap in_wait_list same.1
    by (inr other) = absurd (no_both (n == o) e other.0)
waiting_is o (in_entry_list n) e = absurd cc
waiting_is o done e = absurd cc

pub waiting_at : (o : ℕ) (x : Spot) → x ≡ in_wait_list o → is_waiting o x ≡ true
waiting_at o x e = subst (λ y. is_waiting o y ≡ true) (sym e) (eq-eqb o o refl)

-- who is live was made
live_made : (w : World) (r : State) (t : ℕ) → is_live ((look_of w r).spot t) ≡ true → t < (look_of w r).threads
live_made w r t e = by (slice_get r.threads t) refl
  where
    by : (m : Option JavaThread) → slice_get r.threads t ≡ m → t < length r.threads
    by None at = let z : false ≡ true = sym (ap (λ n. is_live (spot_at n)) at) ∙ e in absurd cc
    by (Some x) at = slice_get_within r.threads t x at

-- ---- one list

-- who is in a list that has those who are there
belongs_from : (b : Bool) (n : ℕ) → n ≡ once_if b → 0 < n → b ≡ true
belongs_from true n e there = refl
belongs_from false n e there = absurd (omega (arith, e, there))

neither : (b : Bool) → (b && not b) ≡ false
neither true = refl
neither false = refl

module _ (belongs : Spot → Bool) (before after : Look) (order list : List ℕ) (listed : (t : ℕ) → count t list ≡ once_if (belongs (before.spot t))) where
  abbrev comes : ℕ → Bool
  comes t = belongs (after.spot t) && not (belongs (before.spot t))

  pub was_there : (t : ℕ) → 0 < count t list → belongs (before.spot t) ≡ true
  was_there t there = belongs_from (belongs (before.spot t)) (count t list) (listed t) there

  not_there : (t : ℕ) → belongs (before.spot t) ≡ false → count t list ≡ 0
  not_there t off = listed t ∙ ap once_if off

  -- who is where it was doesn't come
  pub stays_off : (t : ℕ) → belongs (after.spot t) ≡ belongs (before.spot t) → comes t ≡ false
  stays_off t same = ap (λ b. b && not (belongs (before.spot t))) same ∙ neither (belongs (before.spot t))

  abbrev kept : List ℕ
  kept = filter (λ t. belongs (after.spot t)) list

  -- nobody comes
  pub only_kept : ((t : ℕ) → 0 < count t order → comes t ≡ false) → updated_list belongs before after order list ≡ kept
  only_kept off = ap (λ xs. kept ++ xs) (filter_none comes order off) ∙ append-nil kept

  -- nobody leaves
  pub all_kept : ((t : ℕ) → 0 < count t list → belongs (after.spot t) ≡ true)
      → updated_list belongs before after order list ≡ list ++ filter comes order
  all_kept stay = ap (λ xs. xs ++ filter comes order) (filter_all (λ t. belongs (after.spot t)) list stay)

  -- nobody does either
  pub list_stays : ((t : ℕ) → belongs (after.spot t) ≡ belongs (before.spot t)) → updated_list belongs before after order list ≡ list
  list_stays same =
      only_kept (λ t there. stays_off t (same t))
      ∙ filter_all (λ t. belongs (after.spot t)) list (λ t there. same t ∙ was_there t there)

  -- ---- it has those who are there afterwards

  updated_listed : IsOrder after order → ((t : ℕ) → belongs (after.spot t) ≡ true → t < after.threads)
      → (t : ℕ)
      → count t (updated_list belongs before after order list) ≡ once_if (belongs (after.spot t))
  updated_listed in_order made t = by (cases_Bool (belongs (after.spot t))) (cases_Bool (belongs (before.spot t)))
    where
      all : count t (updated_list belongs before after order list) ≡ count t kept + count t (filter comes order)
      all = count-append t kept (filter comes order)

      by : (belongs (after.spot t) ≡ true) ⊎ (belongs (after.spot t) ≡ false)
          → (belongs (before.spot t) ≡ true) ⊎ (belongs (before.spot t) ≡ false)
          → count t (updated_list belongs before after order list) ≡ once_if (belongs (after.spot t))
      by (inr gone) was =
          let leaves = count-filter_no t (λ u. belongs (after.spot u)) list gone in
          let none = count-filter_no t comes order (ap (λ b. b && not (belongs (before.spot t))) gone) in
          let sum : count t (updated_list belongs before after order list) ≡ 0 = omega (arith, all, leaves, none) in
          sum ∙ sym (ap once_if gone)
      by (inl here) (inl was) =
          let stays = count-filter_yes t (λ u. belongs (after.spot u)) list here in
          let none = count-filter_no t comes order (stays_off t (here ∙ sym was)) in
          let old : count t list ≡ 1 = listed t ∙ ap once_if was in
          let sum : count t (updated_list belongs before after order list) ≡ 1 = omega (arith, all, stays, none, old) in
          sum ∙ sym (ap once_if here)
      by (inl here) (inr off) =
          let stays = count-filter_yes t (λ u. belongs (after.spot u)) list here in
          let one = count-filter_yes t comes order (ap (λ b. b && not (belongs (before.spot t))) here ∙ ap not off) in
          let new = in_order.once t (made t here) in
          let old = not_there t off in
          let sum : count t (updated_list belongs before after order list) ≡ 1 = omega (arith, all, stays, one, new, old) in
          sum ∙ sym (ap once_if here)

  -- ---- one thread goes elsewhere

  module _ (u : ℕ) (others : (t : ℕ) → t ≢ u → belongs (after.spot t) ≡ belongs (before.spot t)) where
    abbrev moved : List ℕ
    moved = moved_list belongs u (before.spot u) (after.spot u) list

    moved_is : (new old : Bool) → belongs (after.spot u) ≡ new → belongs (before.spot u) ≡ old
        → cond new (cond old list (list ++ u ∷ [])) (cond old (without u list) list) ≡ moved
    moved_is new old now was =
        ap (λ b. cond new (cond b list (list ++ u ∷ [])) (cond b (without u list) list)) (sym was)
        ∙ ap (λ b. cond b (cond (belongs (before.spot u)) list (list ++ u ∷ [])) (cond (belongs (before.spot u)) (without u list) list)) (sym now)

    stays_still : belongs (after.spot u) ≡ belongs (before.spot u) → updated_list belongs before after order list ≡ list
    stays_still same = list_stays (λ t. by t (eqb_tells t u))
      where
        by : (t : ℕ) → ((eqb t u ≡ true) × (t ≡ u)) ⊎ ((eqb t u ≡ false) × (t ≢ u)) → belongs (after.spot t) ≡ belongs (before.spot t)
        by t (inl me) = ap (λ n. belongs (after.spot n)) me.1 ∙ same ∙ sym (ap (λ n. belongs (before.spot n)) me.1)
        by t (inr other) = others t other.1

    comes_last : count u order ≡ 1 → belongs (after.spot u) ≡ true → belongs (before.spot u) ≡ false
        → updated_list belongs before after order list ≡ list ++ u ∷ []
    comes_last once here off =
        all_kept (λ t there. stay t there (eqb_tells t u)) ∙ ap (λ xs. list ++ xs) (filter_one comes order u (λ t. alone t (eqb_tells t u)) once)
      where
        stay : (t : ℕ) → 0 < count t list → ((eqb t u ≡ true) × (t ≡ u)) ⊎ ((eqb t u ≡ false) × (t ≢ u)) → belongs (after.spot t) ≡ true
        stay t there (inl me) = ap (λ n. belongs (after.spot n)) me.1 ∙ here
        stay t there (inr other) = others t other.1 ∙ was_there t there

        alone : (t : ℕ) → ((eqb t u ≡ true) × (t ≡ u)) ⊎ ((eqb t u ≡ false) × (t ≢ u)) → comes t ≡ (t == u)
        alone t (inl me) =
            ap (λ n. belongs (after.spot n) && not (belongs (before.spot n))) me.1
            ∙ ap (λ b. b && not (belongs (before.spot u))) here ∙ ap not off ∙ sym me.0
        alone t (inr other) = stays_off t (others t other.1) ∙ sym other.0

    leaves : belongs (after.spot u) ≡ false → belongs (before.spot u) ≡ true
        → updated_list belongs before after order list ≡ without u list
    leaves gone was =
        only_kept (λ t there. off t (eqb_tells t u))
        ∙ filter_in (λ t. belongs (after.spot t)) (λ t. not (t == u)) list (λ t there. stay t there (eqb_tells t u))
      where
        off : (t : ℕ) → ((eqb t u ≡ true) × (t ≡ u)) ⊎ ((eqb t u ≡ false) × (t ≢ u)) → comes t ≡ false
        off t (inl me) =
            ap (λ n. belongs (after.spot n) && not (belongs (before.spot n))) me.1
            ∙ ap (λ b. b && not (belongs (before.spot u))) gone
        off t (inr other) = stays_off t (others t other.1)

        stay : (t : ℕ) → 0 < count t list → ((eqb t u ≡ true) × (t ≡ u)) ⊎ ((eqb t u ≡ false) × (t ≢ u))
            → belongs (after.spot t) ≡ not (t == u)
        stay t there (inl me) = ap (λ n. belongs (after.spot n)) me.1 ∙ gone ∙ sym (ap not me.0)
        stay t there (inr other) = others t other.1 ∙ was_there t there ∙ sym (ap not other.0)

    pub one_moves : (belongs (after.spot u) ≡ true → count u order ≡ 1) → updated_list belongs before after order list ≡ moved
    one_moves once = by (cases_Bool (belongs (after.spot u))) (cases_Bool (belongs (before.spot u)))
      where
        by : (belongs (after.spot u) ≡ true) ⊎ (belongs (after.spot u) ≡ false)
            → (belongs (before.spot u) ≡ true) ⊎ (belongs (before.spot u) ≡ false)
            → updated_list belongs before after order list ≡ moved
        by (inl here) (inl was) = stays_still (here ∙ sym was) ∙ moved_is true true here was
        by (inl here) (inr off) = comes_last (once here) here off ∙ moved_is true false here off
        by (inr gone) (inl was) = leaves gone was ∙ moved_is false true gone was
        by (inr gone) (inr off) = stays_still (gone ∙ sym off) ∙ moved_is false false gone off

-- ---- the lists have their threads

no_more : (b : Bool) → once_if b ≤ 1
no_more true = omega arith
no_more false = omega arith

waits_once : (l : Look) (s : Schedule) (o : ℕ) → AreListed l s → (t : ℕ) → count t (s.wait_list o) ≤ 1
waits_once l s o listed t = omega (arith, listed.waits t o, no_more (is_waiting o (l.spot t)))

-- an order in which each thread that is in a list comes once
steps_order : (w : World) (r q : State) (s : Schedule) (o : ℕ) → AreListed (look_of w r) s
    → IsOrder (look_of w q) (beginning_with (s.wait_list o) (look_of w q))
steps_order w r q s o listed = beginning_in_order (s.wait_list o) (look_of w q) (waits_once (look_of w r) s o listed)

waits_made : (w : World) (q : State) (o t : ℕ) → is_waiting o ((look_of w q).spot t) ≡ true → t < (look_of w q).threads
waits_made w q o t e = live_made w q t (waiting_live o ((look_of w q).spot t) e)

enters_made : (w : World) (q : State) (o t : ℕ) → is_entering o ((look_of w q).spot t) ≡ true → t < (look_of w q).threads
enters_made w q o t e = live_made w q t (entering_live o ((look_of w q).spot t) e)

pub steps_keep_lists : StepsKeepLists
steps_keep_lists w r q s c t yields listed =
    record {
      waits = λ u o.
          updated_listed (is_waiting o) (look_of w r) (look_of w q) (beginning_with (s.wait_list o) (look_of w q)) (s.wait_list o)
          (λ n. listed.waits n o) (steps_order w r q s o listed) (waits_made w q o) u;
      enters = λ u o.
          updated_listed (is_entering o) (look_of w r) (look_of w q) (beginning_with (s.wait_list o) (look_of w q)) (s.entry_list o)
          (λ n. listed.enters n o) (steps_order w r q s o listed) (enters_made w q o) u;
    }

pub ticks_keep_lists : TicksKeepLists
ticks_keep_lists w r q s c listed =
    record {
      waits = λ u o.
          updated_listed (is_waiting o) (look_of w r) (look_of w q) (by_deadline (look_of w r) (look_of w q)) (s.wait_list o)
          (λ n. listed.waits n o) (by_deadline_in_order (look_of w r) (look_of w q)) (waits_made w q o) u;
      enters = λ u o.
          updated_listed (is_entering o) (look_of w r) (look_of w q) (by_deadline (look_of w r) (look_of w q)) (s.entry_list o)
          (λ n. listed.enters n o) (by_deadline_in_order (look_of w r) (look_of w q)) (enters_made w q o) u;
    }

pub listed_are_in_line : ListedAreInLine
listed_are_in_line l s o listed u there =
    entering_is o (l.spot u) (belongs_from (is_entering o (l.spot u)) (count u (s.entry_list o)) (listed.enters u o) (counted u (s.entry_list o) there))

-- ---- one thread goes elsewhere

-- who is where it was, or was made just now, is in the lists that it was in
waits_same : (o : ℕ) (old new : Spot) → IsWhereItWas old new → is_waiting o new ≡ is_waiting o old
waits_same o old new (stayed e) = ap (is_waiting o) e
waits_same o old new (was_made was is) = ap (is_waiting o) is ∙ sym (ap (is_waiting o) was)

enters_same : (o : ℕ) (old new : Spot) → IsWhereItWas old new → is_entering o new ≡ is_entering o old
enters_same o old new (stayed e) = ap (is_entering o) e
enters_same o old new (was_made was is) = ap (is_entering o) is ∙ sym (ap (is_entering o) was)

where_it_was : (w : World) (r q : State) (t : ℕ) → Stays (slice_get r.threads t) (slice_get q.threads t)
    → IsWhereItWas ((look_of w r).spot t) ((look_of w q).spot t)
where_it_was w r q t (no_thread was is) = stayed (ap spot_at is ∙ sym (ap spot_at was))
where_it_was w r q t (is_new y was is status) = was_made (ap spot_at was) (ap spot_at is ∙ ap spot_of status)
where_it_was w r q t (is_kept x y was is status permit told) = stayed (ap spot_at is ∙ ap spot_of status ∙ sym (ap spot_at was))

pub steps_move_one : StepsMoveOne
steps_move_one w r q t others u ne = where_it_was w r q u (others u ne)

pub steps_move_one_beside : StepsMoveOneBeside
steps_move_one_beside w r q t u others own n ne = by (eqb_tells n t)
  where
    by : ((eqb n t ≡ true) × (n ≡ t)) ⊎ ((eqb n t ≡ false) × (n ≢ t)) → IsWhereItWas ((look_of w r).spot n) ((look_of w q).spot n)
    by (inl me) = stayed (ap (look_of w q).spot me.1 ∙ own ∙ sym (ap (look_of w r).spot me.1))
    by (inr other) = where_it_was w r q n (others.threads n other.1 ne)

pub one_moves_in_lists : OneMovesInLists
one_moves_in_lists w r q s u o listed others = (
  one_moves (is_waiting o) (look_of w r) (look_of w q) order (s.wait_list o) (λ t. listed.waits t o) u
      (λ t ne. waits_same o ((look_of w r).spot t) ((look_of w q).spot t) (others t ne))
      (λ here. in_order.once u (waits_made w q o u here)),
  one_moves (is_entering o) (look_of w r) (look_of w q) order (s.entry_list o) (λ t. listed.enters t o) u
      (λ t ne. enters_same o ((look_of w r).spot t) ((look_of w q).spot t) (others t ne))
      (λ here. in_order.once u (enters_made w q o u here)),
)
  where
    order : List ℕ
    order = beginning_with (s.wait_list o) (look_of w q)

    in_order : IsOrder (look_of w q) order
    in_order = steps_order w r q s o listed

-- a thread alone
first_alone : (xs : List ℕ) (u : ℕ) → slice_get xs 0 ≡ Some u → take 1 xs ≡ u ∷ []
first_alone [] u e = absurd cc
first_alone (x ∷ xs) u e = let same : x ≡ u = cc in ap (λ y. y ∷ []) same

-- from the wait list of one monitor to its entry list: no list of another is touched
in_other_wait : (o n : ℕ) → n ≢ o → is_waiting n (in_wait_list o) ≡ false
in_other_wait o n ne = ne_eqb o n (λ e. ne (sym e))

in_other_line : (o n : ℕ) → n ≢ o → is_entering n (in_entry_list o) ≡ false
in_other_line o n ne = ne_eqb o n (λ e. ne (sym e))

-- who is in no list is in none of a monitor
free_waits : (n : ℕ) (x : Spot) → is_in_a_list x ≡ false → is_waiting n x ≡ false
free_waits n absent e = refl
free_waits n unstarted e = refl
free_waits n in_no_list e = refl
free_waits n (in_wait_list p) e = absurd cc
free_waits n (in_entry_list p) e = refl
free_waits n done e = refl

free_enters : (n : ℕ) (x : Spot) → is_in_a_list x ≡ false → is_entering n x ≡ false
free_enters n absent e = refl
free_enters n unstarted e = refl
free_enters n in_no_list e = refl
free_enters n (in_wait_list p) e = refl
free_enters n (in_entry_list p) e = absurd cc
free_enters n done e = refl

-- a list by whether the thread was in it, and whether it is
moved_as : (belongs : Spot → Bool) (u : ℕ) (old new : Spot) (was is : Bool) (list : List ℕ) → belongs old ≡ was → belongs new ≡ is
    → moved_list belongs u old new list ≡ cond is (cond was list (list ++ u ∷ [])) (cond was (without u list) list)
moved_as belongs u old new was is list was_is is_is =
    ap (λ b. cond b (cond (belongs old) list (list ++ u ∷ [])) (cond (belongs old) (without u list) list)) is_is
    ∙ ap (λ b. cond is (cond b list (list ++ u ∷ [])) (cond b (without u list) list)) was_is

module _ (w : World) (r q : State) (s : Schedule) (u o : ℕ) (listed : AreListed (look_of w r) s) (others : OneMoves u (look_of w r) (look_of w q)) where
  abbrev old : Spot
  old = (look_of w r).spot u

  abbrev new : Spot
  new = (look_of w q).spot u

  waits_as : (n : ℕ) (was is : Bool) → is_waiting n old ≡ was → is_waiting n new ≡ is
      → wait_list_after (look_of w r) (look_of w q) s n
      ≡ cond is (cond was (s.wait_list n) (s.wait_list n ++ u ∷ [])) (cond was (without u (s.wait_list n)) (s.wait_list n))
  waits_as n was is was_is is_is =
      (one_moves_in_lists w r q s u n listed others).0 ∙ moved_as (is_waiting n) u old new was is (s.wait_list n) was_is is_is

  enters_as : (n : ℕ) (was is : Bool) → is_entering n old ≡ was → is_entering n new ≡ is
      → entry_list_after (look_of w r) (look_of w q) s n
      ≡ cond is (cond was (s.entry_list n) (s.entry_list n ++ u ∷ [])) (cond was (without u (s.entry_list n)) (s.entry_list n))
  enters_as n was is was_is is_is =
      (one_moves_in_lists w r q s u n listed others).1 ∙ moved_as (is_entering n) u old new was is (s.entry_list n) was_is is_is

  -- what a spot says of the lists of this monitor, and of those of another
  waits_here : (x : Spot) → x ≡ in_wait_list o → is_waiting o x ≡ true
  waits_here x e = waiting_at o x e

  waits_there : (n : ℕ) (x : Spot) → n ≢ o → x ≡ in_wait_list o → is_waiting n x ≡ false
  waits_there n x ne e = ap (is_waiting n) e ∙ in_other_wait o n ne

  enters_there : (n : ℕ) (x : Spot) → n ≢ o → x ≡ in_entry_list o → is_entering n x ≡ false
  enters_there n x ne e = ap (is_entering n) e ∙ in_other_line o n ne

  line_waits : (n : ℕ) (x : Spot) → x ≡ in_entry_list o → is_waiting n x ≡ false
  line_waits n x e = ap (is_waiting n) e

  wait_enters : (n : ℕ) (x : Spot) → x ≡ in_wait_list o → is_entering n x ≡ false
  wait_enters n x e = ap (is_entering n) e

  lines_up : is_in_a_list old ≡ false → new ≡ in_entry_list o
      → ListsBecome (look_of w r) (look_of w q) s o (s.wait_list o) (s.entry_list o ++ u ∷ [])
  lines_up free at =
      record {
        waits_are = waits_as o false false (free_waits o old free) (line_waits o new at);
        enters_are = enters_as o false true (free_enters o old free) (entering_at o new at);
        others_wait = λ n ne. waits_as n false false (free_waits n old free) (line_waits n new at);
        others_enter = λ n ne. enters_as n false false (free_enters n old free) (enters_there n new ne at);
      }

  leaves_line : old ≡ in_entry_list o → is_in_a_list new ≡ false
      → ListsBecome (look_of w r) (look_of w q) s o (s.wait_list o) (without u (s.entry_list o))
  leaves_line at free =
      record {
        waits_are = waits_as o false false (line_waits o old at) (free_waits o new free);
        enters_are = enters_as o true false (entering_at o old at) (free_enters o new free);
        others_wait = λ n ne. waits_as n false false (line_waits n old at) (free_waits n new free);
        others_enter = λ n ne. enters_as n false false (enters_there n old ne at) (free_enters n new free);
      }

  begins_wait : is_in_a_list old ≡ false → new ≡ in_wait_list o
      → ListsBecome (look_of w r) (look_of w q) s o (s.wait_list o ++ u ∷ []) (s.entry_list o)
  begins_wait free at =
      record {
        waits_are = waits_as o false true (free_waits o old free) (waits_here new at);
        enters_are = enters_as o false false (free_enters o old free) (wait_enters o new at);
        others_wait = λ n ne. waits_as n false false (free_waits n old free) (waits_there n new ne at);
        others_enter = λ n ne. enters_as n false false (free_enters n old free) (wait_enters n new at);
      }

  ends_wait : old ≡ in_wait_list o → new ≡ in_entry_list o
      → ListsBecome (look_of w r) (look_of w q) s o (without u (s.wait_list o)) (s.entry_list o ++ u ∷ [])
  ends_wait was at =
      record {
        waits_are = waits_as o true false (waits_here old was) (line_waits o new at);
        enters_are = enters_as o false true (wait_enters o old was) (entering_at o new at);
        others_wait = λ n ne. waits_as n false false (waits_there n old ne was) (line_waits n new at);
        others_enter = λ n ne. enters_as n false false (wait_enters n old was) (enters_there n new ne at);
      }

  is_free_still : is_in_a_list old ≡ false → is_in_a_list new ≡ false
      → ListsBecome (look_of w r) (look_of w q) s o (s.wait_list o) (s.entry_list o)
  is_free_still was is =
      record {
        waits_are = waits_as o false false (free_waits o old was) (free_waits o new is);
        enters_are = enters_as o false false (free_enters o old was) (free_enters o new is);
        others_wait = λ n ne. waits_as n false false (free_waits n old was) (free_waits n new is);
        others_enter = λ n ne. enters_as n false false (free_enters n old was) (free_enters n new is);
      }

  -- the first that waits
  notified : slice_get (s.wait_list o) 0 ≡ Some u → new ≡ in_entry_list o
      → ListsBecome (look_of w r) (look_of w q) s o (drop 1 (s.wait_list o)) (s.entry_list o ++ take 1 (s.wait_list o))
  notified first at =
      let there = belongs_from (is_waiting o old) (count u (s.wait_list o)) (listed.waits u o) (first-held (s.wait_list o) u first) in
      let moves = ends_wait (waiting_is o old there) at in
      record {
        waits_are = moves.waits_are ∙ without-first (s.wait_list o) u first (waits_once (look_of w r) s o listed u);
        enters_are = moves.enters_are ∙ ap (λ xs. s.entry_list o ++ xs) (sym (first_alone (s.wait_list o) u first));
        others_wait = moves.others_wait;
        others_enter = moves.others_enter;
      }

pub who_lines_up_is_last : WhoLinesUpIsLast
who_lines_up_is_last w r q s u o listed others free at = lines_up w r q s u o listed others free at

pub who_enters_leaves_the_line : WhoEntersLeavesTheLine
who_enters_leaves_the_line w r q s u o listed others at free = leaves_line w r q s u o listed others at free

pub who_waits_is_last : WhoWaitsIsLast
who_waits_is_last w r q s u o listed others free at = begins_wait w r q s u o listed others free at

pub whose_wait_ends_is_last : WhoseWaitEndsIsLast
whose_wait_ends_is_last w r q s u o listed others was at = ends_wait w r q s u o listed others was at

pub notify_moves_the_first : NotifyMovesTheFirst
notify_moves_the_first w r q s u o listed others first at = notified w r q s u o listed others first at

pub other_steps_keep_lists : OtherStepsKeepLists
other_steps_keep_lists w r q s u o listed others was is = is_free_still w r q s u o listed others was is

-- ---- all that wait on a monitor go elsewhere

pub notify_all_moves_all : NotifyAllMovesAll
notify_all_moves_all w r q s o listed moves =
    record { waits_are = waits_are; enters_are = enters_are; others_wait = others_wait; others_enter = others_enter }
  where
    before : Look
    before = look_of w r

    after : Look
    after = look_of w q

    waits : List ℕ
    waits = s.wait_list o

    enters : List ℕ
    enters = s.entry_list o

    -- a thread waits on it, and comes in line, or is where it was
    Goes : ℕ → Type 0
    Goes t = ((before.spot t ≡ in_wait_list o) × (after.spot t ≡ in_entry_list o))
        ⊎ ((is_waiting o (before.spot t) ≡ false) × (after.spot t ≡ before.spot t))

    goes : (t : ℕ) → Goes t
    goes t =
        elim (cases_Bool (is_waiting o (before.spot t))) [
          | inl is ↦ let at = waiting_is o (before.spot t) is in inl (at, moves.waiters t at)
          | inr off ↦ inr (off, moves.others t (λ e. no_both (is_waiting o (before.spot t)) (waiting_at o (before.spot t) e) off))
        ]

    -- it doesn't wait there afterwards
    gone : (t : ℕ) → Goes t → is_waiting o (after.spot t) ≡ false
    gone t (inl moved) = ap (is_waiting o) moved.1
    gone t (inr stays) = ap (is_waiting o) stays.1 ∙ stays.0

    waits_are : wait_list_after before after s o ≡ []
    waits_are =
        only_kept (is_waiting o) before after (beginning_with waits after) waits (λ t. listed.waits t o)
        (λ t there. ap (λ b. b && not (is_waiting o (before.spot t))) (gone t (goes t)))
        ∙ filter_none (λ t. is_waiting o (after.spot t)) waits (λ t there. gone t (goes t))

    comes : ℕ → Bool
    comes t = is_entering o (after.spot t) && not (is_entering o (before.spot t))

    -- who was in line stays there
    in_line_stays : (t : ℕ) → 0 < count t enters → Goes t → is_entering o (after.spot t) ≡ true
    in_line_stays t there (inl moved) = entering_at o (after.spot t) moved.1
    in_line_stays t there (inr stays) =
        ap (is_entering o) stays.1 ∙ belongs_from (is_entering o (before.spot t)) (count t enters) (listed.enters t o) there

    -- who waited comes, ..
    waiter_comes : (t : ℕ) → 0 < count t waits → Goes t → comes t ≡ true
    waiter_comes t there (inl moved) =
        ap (λ b. b && not (is_entering o (before.spot t))) (entering_at o (after.spot t) moved.1)
        ∙ ap (λ x. not (is_entering o x)) moved.0
    waiter_comes t there (inr stays) =
        absurd (no_both (is_waiting o (before.spot t)) (belongs_from (is_waiting o (before.spot t)) (count t waits) (listed.waits t o) there) stays.0)

    -- .. and nobody else does
    other_off : (t : ℕ) → count t waits ≡ 0 → Goes t → comes t ≡ false
    other_off t none (inl moved) =
        let one : count t waits ≡ 1 = listed.waits t o ∙ ap once_if (waiting_at o (before.spot t) moved.0) in
        absurd (omega (arith, one, none))
    other_off t none (inr stays) =
        ap (λ x. is_entering o x && not (is_entering o (before.spot t))) stays.1 ∙ neither (is_entering o (before.spot t))

    rest : List ℕ
    rest = filter (λ t. count t waits == 0) (all_threads after)

    rest_absent : (t : ℕ) → 0 < count t rest → count t waits ≡ 0
    rest_absent t there =
        elim (eqb_tells (count t waits) 0) [
          | inl none ↦ none.1
          | inr some ↦ absurd (omega (arith, there, count-filter_no t (λ u. count u waits == 0) (all_threads after) some.0))
        ]

    enters_are : entry_list_after before after s o ≡ enters ++ waits
    enters_are =
        all_kept (is_entering o) before after (beginning_with waits after) enters (λ t. listed.enters t o)
        (λ t there. in_line_stays t there (goes t))
        ∙ ap (λ xs. enters ++ xs)
        (filter-append comes waits rest
        ∙ ap (λ xs. xs ++ filter comes rest) (filter_all comes waits (λ t there. waiter_comes t there (goes t)))
        ∙ ap (λ xs. waits ++ xs) (filter_none comes rest (λ t there. other_off t (rest_absent t there) (goes t)))
        ∙ append-nil waits)

    others_wait : (n : ℕ) → n ≢ o → wait_list_after before after s n ≡ s.wait_list n
    others_wait n ne =
        list_stays (is_waiting n) before after (beginning_with (s.wait_list n) after) (s.wait_list n) (λ t. listed.waits t n) (λ t. by t (goes t))
      where
        by : (t : ℕ) → Goes t → is_waiting n (after.spot t) ≡ is_waiting n (before.spot t)
        by t (inl moved) = ap (is_waiting n) moved.1 ∙ sym (ap (is_waiting n) moved.0 ∙ in_other_wait o n ne)
        by t (inr stays) = ap (is_waiting n) stays.1

    others_enter : (n : ℕ) → n ≢ o → entry_list_after before after s n ≡ s.entry_list n
    others_enter n ne =
        list_stays (is_entering n) before after (beginning_with (s.wait_list n) after) (s.entry_list n) (λ t. listed.enters t n) (λ t. by t (goes t))
      where
        by : (t : ℕ) → Goes t → is_entering n (after.spot t) ≡ is_entering n (before.spot t)
        by t (inl moved) = ap (is_entering n) moved.1 ∙ in_other_line o n ne ∙ sym (ap (is_entering n) moved.0)
        by t (inr stays) = ap (is_entering n) stays.1
