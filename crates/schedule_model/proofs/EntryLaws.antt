-- Each entry keeps what holds of a schedule.
use Rattle.std.proofs.Common.{◌≡◌, ◌+◌, ◌<◌, ◌≤◌, ◌==◌, ℕ, suc, Bool, true, false, List, [], ◌∷◌, Option, None, Some, length, drop, take, slice_get, set, get_or, sym, ◌∙◌, ap, subst, refl, add-zero, arith, cond, ◌⊎◌, inl, inr, not, ◌&&◌, ◌||◌}
use Rattle.std.proofs.lemmas.Bool.{cases_Bool, cases_lt, eq-eqb, eqb-true, ltb-true, ne_eqb, or_left, and_parts, or_cases}
use Rattle.std.proofs.lemmas.Bool.Decides.{eqb_tells}
use Rattle.std.proofs.lemmas.List.{get_or-take, get_or-drop, length-take}
use Rattle.std.proofs.lemmas.List.Sums.{get_or-le-sum_by, sum_by-set}
use Rattle.std.proofs.lemmas.Option.{slice_get_within, get_or_from_slice_get}
use Rattle.std.proofs.Math.ListN.{length-set}
use Rattle.items.proofs.Binds.{some_is}
use Rattle.thread_lists.specs.Lists.{count, list_at}
use Rattle.thread_lists.proofs.CountLaws.{count-cons, total-push, total-set}
use Rattle.run_deques.specs.Take.{front, next, or}
use Rattle.run_deques.proofs.TakeLaws.{next-inside}
use Rattle.schedule_model.specs.Look.{Look, IsLook, Spot, absent, unstarted, in_no_list, in_wait_list, in_entry_list, done, is_live, is_done, is_in_line, is_waiting}
use Rattle.schedule_model.specs.Schedule.{Schedule, in_deques, on_carriers, places, times, with_value}
use Rattle.schedule_model.specs.Puts.{all_threads, beginning_with, by_deadline}
use Rattle.schedule_model.specs.Entries.{after_step, after_tick, after_unmount, came_late, has_mounted, has_to_leave, holds, is_idle, is_last_act, is_vacant, may_step, may_tick, may_unmount, mount, mounted_from, unmount, where_allowed}
use Rattle.schedule_model.specs.Woken.{AreHeld, AreListed, AreWoken, GoesOn, IsScheduled, once_if}
use Rattle.schedule_model.specs.Changes.{Changes, IsOther}
use Rattle.schedule_model.proofs.ListLaws.{all_in_order, beginning_in_order, by_deadline_in_order}
use Rattle.schedule_model.proofs.PutLaws.{Facts, no_both, change_listed, change_once, change_woken}

pub allowed_is : {A : Type 0} (b : Bool) (x y : A) → where_allowed b x ≡ Some y → (b ≡ true) × (x ≡ y)
allowed_is true x y e = (refl, cc)
allowed_is false x y e = absurd cc

pub vacant_is : (o : Option (Option ℕ)) → is_vacant o ≡ true → o ≡ Some None
vacant_is None e = absurd cc
vacant_is (Some None) e = refl
vacant_is (Some (Some t)) e = absurd cc

pub holds_is : (t : ℕ) (o : Option (Option ℕ)) → holds t o ≡ true → o ≡ Some (Some t)
holds_is t None e = absurd cc
holds_is t (Some None) e = absurd cc
holds_is t (Some (Some u)) e = ap (λ x. Some (Some x)) (eqb-true u t e)

done_is : (x : Spot) → is_done x ≡ true → x ≡ done
done_is absent e = absurd cc
done_is unstarted e = absurd cc
done_is in_no_list e = absurd cc
done_is (in_wait_list o) e = absurd cc
done_is (in_entry_list o) e = absurd cc
done_is done e = refl

-- ---- what is next, and what a take leaves

record Front (j : ℕ) (deques : List (List ℕ)) (k t : ℕ) : Type 0 where
  pub index : ℕ
  pub is : k ≡ j + index
  pub inside : index < length deques
  pub first : slice_get (list_at deques index) 0 ≡ Some t

front_is : (j : ℕ) (deques : List (List ℕ)) (k t : ℕ) → front j deques ≡ Some (k, t) → Front j deques k t
front_is j [] k t e = absurd cc
front_is j ([] ∷ deques) k t e =
    let w = front_is (suc j) deques k t e in
    record { index = suc w.index; is = omega (arith, w.is); inside = omega (arith, w.inside); first = w.first }
front_is j ((u ∷ us) ∷ deques) k t e =
    let i : j ≡ k = ap (deque_of) e in
    let v : u ≡ t = ap (thread_of) e in
    record { index = 0; is = omega (arith, i); inside = omega arith; first = ap Some v }
  where
    deque_of : Option (ℕ × ℕ) → ℕ
    deque_of None = 0
    deque_of (Some found) = found.0

    thread_of : Option (ℕ × ℕ) → ℕ
    thread_of None = 0
    thread_of (Some found) = found.1

either : (a b : Option (ℕ × ℕ)) (x : ℕ × ℕ) → or a b ≡ Some x → (a ≡ Some x) ⊎ (b ≡ Some x)
either None b x e = inr e
either (Some y) b x e = inl e

next_first : (deques : List (List ℕ)) (c k t : ℕ) → c < length deques → next deques c ≡ Some (k, t) → slice_get (list_at deques k) 0 ≡ Some t
next_first deques c k t h e =
    elim (either (front c (drop c deques)) (front 0 (take c deques)) (k, t) e) [
      | inl own ↦
          let w = front_is c (drop c deques) k t own in
          let at : list_at (drop c deques) w.index ≡ list_at deques k = get_or-drop c deques w.index [] ∙ ap (list_at deques) (sym w.is) in
          subst (λ xs. slice_get xs 0 ≡ Some t) at w.first
      | inr round ↦
          let w = front_is 0 (take c deques) k t round in
          let at : list_at (take c deques) w.index ≡ list_at deques w.index = get_or-take c deques w.index [] (omega (arith, w.inside, length-take c deques, h)) in
          let here : w.index ≡ k = omega (arith, w.is) in
          subst (λ xs. slice_get xs 0 ≡ Some t) (at ∙ ap (list_at deques) here) w.first
    ]

count-first : (u t : ℕ) (xs : List ℕ) → slice_get xs 0 ≡ Some t → count u xs ≡ cond (t == u) 1 0 + count u (drop 1 xs)
count-first u t [] e = absurd cc
count-first u t (x ∷ xs) e = let i : x ≡ t = cc in count-cons u x xs ∙ ap (λ y. cond (y == u) 1 0 + count u xs) i

-- what a carrier has mounted
pub on-set : (s : Schedule) (c u : ℕ) (old new : Option ℕ) → slice_get s.mounted c ≡ Some old →
    on_carriers u (record s { mounted = set s.mounted c new }) + times u old ≡ on_carriers u s + times u new
on-set s c u old new e =
    sym (ap (λ o. on_carriers u (record s { mounted = set s.mounted c new }) + times u o) (get_or_from_slice_get s.mounted c old None e))
    ∙ sum_by-set (times u) s.mounted c new None (slice_get_within s.mounted c old e)

pub on_there : (s : Schedule) (c t : ℕ) → has_mounted s c t ≡ true → 0 < on_carriers t s
on_there s c t e =
    let w = holds_is t (slice_get s.mounted c) e in
    let is : get_or s.mounted c None ≡ Some t = get_or_from_slice_get s.mounted c (Some t) None w in
    let once : times t (get_or s.mounted c None) ≡ 1 = ap (times t) is ∙ ap (λ b. cond b 1 0) (eq-eqb t t refl) in
    omega (arith, once, get_or-le-sum_by (times t) s.mounted c None (slice_get_within s.mounted c (Some t) w))

-- ---- Mount

module _ (l : Look) (s : Schedule) (c : ℕ) (found : ℕ × ℕ) (sizes : length s.deques ≡ length s.mounted) (idle : is_idle s c ≡ true) (is_next : next s.deques c ≡ Some found) where
  abbrev taken : Schedule
  taken = mounted_from l s c found

  vacant : slice_get s.mounted c ≡ Some None
  vacant = vacant_is (slice_get s.mounted c) idle

  within : c < length s.deques
  within = omega (arith, slice_get_within s.mounted c None vacant, sizes)

  deque_inside : found.0 < length s.deques
  deque_inside = next-inside s.deques c found.0 found.1 within is_next

  taken_on : (u : ℕ) → on_carriers u taken ≡ on_carriers u s + cond (found.1 == u) 1 0
  taken_on u = omega (arith, on-set s c u None (Some found.1) vacant)

  pub taken_in : (u : ℕ) → in_deques u taken + cond (found.1 == u) 1 0 ≡ in_deques u s
  taken_in u =
      let first = next_first s.deques c found.0 found.1 within is_next in
      omega (arith, total-set (count u) s.deques found.0 (drop 1 (list_at s.deques found.0)) deque_inside, count-first u found.1 (list_at s.deques found.0) first)

  taken_places : (u : ℕ) → places u taken ≡ places u s
  taken_places u = omega (arith, taken_on u, taken_in u)

  taken_woken : AreWoken l s → AreWoken l taken
  taken_woken w =
      record {
        ready = λ t on off. omega (arith, w.ready t on off, taken_places t);
        line = λ t o here free.
            let v = w.line t o here free in
            record { thread = v.thread; in_line = v.in_line; placed = omega (arith, v.placed, taken_places v.thread) };
        deques = λ t h. w.deques t (omega (arith, h, taken_in t));
      }

  taken_held : AreHeld l s → AreHeld l taken
  taken_held held =
      record {
        pinned = λ t p. omega (arith, held.pinned t p, taken_on t);
        owed = λ t on owes.
            elim (eqb_tells t found.1) [
              | inl w ↦ absurd (no_both (with_value s.owes found.1 false t) owes (ap (λ b. cond b false (s.owes t)) w.0))
              | inr w ↦
                  let other : (found.1 == t) ≡ false = ne_eqb found.1 t (λ e. w.1 (sym e)) in
                  let same : ◌≡◌ {A = ℕ} (cond (found.1 == t) 1 0) 0 = ap (λ b. cond b 1 0) other in
                  held.owed t (omega (arith, on, taken_on t, same)) (sym (ap (λ b. cond b false (s.owes t)) w.0) ∙ owes)
            ];
      }

  pub taken_scheduled : IsScheduled l s → IsScheduled l taken
  taken_scheduled is =
      record {
        once = λ t. omega (arith, is.once t, taken_places t);
        sizes = length-set _ _ _ ∙ sizes ∙ sym (length-set _ _ _);
        going = λ goes.
            let old = is.going goes in
            record {
              listed = record { waits = old.listed.waits; enters = old.listed.enters };
              woken = taken_woken old.woken;
              held = taken_held old.held;
            };
      }

pub mount_keeps : (l : Look) (s after : Schedule) (c t : ℕ) → mount l s c t ≡ Some after → IsScheduled l s → IsScheduled l after
mount_keeps l s after c t e is =
    let found = some_is (next s.deques c) (λ found. where_allowed (not l.ended && (is_idle s c && (found.1 == t))) (mounted_from l s c found)) after e in
    let given = allowed_is (not l.ended && (is_idle s c && (found.0.1 == t))) (mounted_from l s c found.0) after found.2 in
    let idle = (and_parts (is_idle s c) (found.0.1 == t) (and_parts (not l.ended) _ given.0).1).0 in
    subst (IsScheduled l) given.1 (taken_scheduled l s c found.0 is.sizes idle found.1 is)

-- who has to leave may still leave after what others do
pub owed_stays : (before after : Look) (by : Option ℕ) → Changes before after by → (u : ℕ) → IsOther by u
    → (is_done (before.spot u) ≡ true) ⊎ (before.pinned u ≡ false) → (is_done (after.spot u) ≡ true) ⊎ (after.pinned u ≡ false)
owed_stays before after by change u other (inl over) = inl (ap is_done (change.over u other (done_is (before.spot u) over)))
owed_stays before after by change u other (inr loose) = inr (change.pinned u other ∙ loose)

-- ---- Unmount

module _ (l : Look) (s : Schedule) (c t : ℕ) (sizes : length s.deques ≡ length s.mounted) (mounts : has_mounted s c t ≡ true) where
  abbrev put_down : Schedule
  put_down = after_unmount l s c t

  here : slice_get s.mounted c ≡ Some (Some t)
  here = holds_is t (slice_get s.mounted c) mounts

  inside : c < length s.deques
  inside = omega (arith, slice_get_within s.mounted c (Some t) here, sizes)

  down_on : (u : ℕ) → on_carriers u put_down + cond (t == u) 1 0 ≡ on_carriers u s
  down_on u = omega (arith, on-set s c u (Some t) None here)

  down_in : (u : ℕ) → in_deques u put_down ≡ in_deques u s + count u (cond (l.enabled t) (t ∷ []) [])
  down_in u = total-push u s.deques c (cond (l.enabled t) (t ∷ []) []) inside

  -- an enabled thread comes to the deque, and another to none
  came-yes : (u : ℕ) → l.enabled t ≡ true → count u (cond (l.enabled t) (t ∷ []) []) ≡ cond (t == u) 1 0
  came-yes u on = ap (λ b. count u (cond b (t ∷ []) [])) on ∙ count-cons u t [] ∙ add-zero (cond (t == u) 1 0)

  came-no : (u : ℕ) → l.enabled t ≡ false → count u (cond (l.enabled t) (t ∷ []) []) ≡ 0
  came-no u off = ap (λ b. count u (cond b (t ∷ []) [])) off

  came-le : (u : ℕ) → count u (cond (l.enabled t) (t ∷ []) []) ≤ cond (t == u) 1 0
  came-le u =
      elim (cases_Bool (l.enabled t)) [
        | inl on ↦ omega (arith, came-yes u on)
        | inr off ↦ omega (arith, came-no u off)
      ]

  down_le : (u : ℕ) → places u put_down ≤ places u s
  down_le u = omega (arith, down_on u, down_in u, came-le u)

  -- who is enabled, or is another thread, is in as many places as before
  down_stays : (u : ℕ) → (u ≡ t → l.enabled t ≡ true) → places u put_down ≡ places u s
  down_stays u on =
      elim (eqb_tells t u) [
        | inl w ↦ omega (arith, down_on u, down_in u, came-yes u (on (sym w.1)))
        | inr w ↦
            let other : ◌≡◌ {A = ℕ} (cond (t == u) 1 0) 0 = ap (λ b. cond b 1 0) w.0 in
            omega (arith, down_on u, down_in u, came-le u, other)
      ]

  down_woken : l.ended ≡ false → IsLook l → AreWoken l s → AreWoken l put_down
  down_woken goes look w =
      record {
        ready = λ u on off. omega (arith, w.ready u on off, down_stays u (λ e. subst (λ x. l.enabled x ≡ true) e on));
        line = λ u o there free.
            let v = w.line u o there free in
            let on : v.thread ≡ t → l.enabled t ≡ true = λ e. subst (λ x. l.enabled x ≡ true) e (look.line v.thread o goes v.in_line ∙ ap not free) in
            record { thread = v.thread; in_line = v.in_line; placed = omega (arith, v.placed, down_stays v.thread on) };
        deques = λ u h.
            elim (cases_lt 0 (in_deques u s)) [
              | inl q ↦ w.deques u q
              | inr z ↦
                  let more : 0 < count u (cond (l.enabled t) (t ∷ []) []) = omega (arith, h, z, down_in u) in
                  let is : (t ≡ u) × (l.enabled t ≡ true) = put_is u more in
                  let on : l.enabled u ≡ true = subst (λ x. l.enabled x ≡ true) is.0 is.1 in
                  (look.live u on, or_left (l.enabled u) (is_in_line (l.spot u)) on)
            ];
      }
    where
      put_is : (u : ℕ) → 0 < count u (cond (l.enabled t) (t ∷ []) []) → (t ≡ u) × (l.enabled t ≡ true)
      put_is u h =
          elim (cases_Bool (l.enabled t)) [
            | inr off ↦ absurd (omega (arith, h, came-no u off))
            | inl on ↦
                elim (eqb_tells t u) [
                  | inl w ↦ (w.1, on)
                  | inr w ↦
                      let other : ◌≡◌ {A = ℕ} (cond (t == u) 1 0) 0 = ap (λ b. cond b 1 0) w.0 in
                      absurd (omega (arith, h, came-yes u on, other))
                ]
          ]

  -- a thread that may be put down isn't pinned, or it has ended
  pub down_free : AreHeld l s → l.ended ≡ false → may_unmount l s c t ≡ true → (is_done (l.spot t) ≡ true) ⊎ (l.pinned t ≡ false)
  down_free held goes may =
      let reason = (and_parts (has_mounted s c t) _ may).1 in
      let given : (s.owes t || came_late l s t) ≡ true = sym (ap (λ b. cond b (is_last_act l s c t) (s.owes t || came_late l s t)) goes) ∙ reason in
      elim (or_cases (s.owes t) (came_late l s t) given) [
        | inl owes ↦ held.owed t (on_there s c t mounts) owes
        | inr late ↦ inr (unpinned (l.pinned t) (and_parts (not (l.pinned t)) _ late).0)
      ]
    where
      unpinned : (b : Bool) → not b ≡ true → b ≡ false
      unpinned true e = absurd cc
      unpinned false e = refl

  down_held : IsLook l → AreHeld l s → (is_done (l.spot t) ≡ true) ⊎ (l.pinned t ≡ false) → AreHeld l put_down
  down_held look held free =
      record {
        pinned = λ u p.
            elim (eqb_tells t u) [
              | inl w ↦ absurd (not_pinned free (subst (λ x. l.pinned x ≡ true) (sym w.1) p))
              | inr w ↦
                  let other : ◌≡◌ {A = ℕ} (cond (t == u) 1 0) 0 = ap (λ b. cond b 1 0) w.0 in
                  omega (arith, held.pinned u p, down_on u, other)
            ];
        owed = λ u on owes. held.owed u (omega (arith, on, down_on u)) owes;
      }
    where
      not_pinned : (is_done (l.spot t) ≡ true) ⊎ (l.pinned t ≡ false) → l.pinned t ≡ true → ⊥
      not_pinned (inl over) p = no_both (is_live (l.spot t)) (look.pinned t p) (ap is_live (done_is (l.spot t) over))
      not_pinned (inr loose) p = no_both (l.pinned t) p loose

  pub down_scheduled : IsLook l → may_unmount l s c t ≡ true → IsScheduled l s → IsScheduled l put_down
  down_scheduled look may is =
      record {
        once = λ u. omega (arith, is.once u, down_le u);
        sizes = length-set _ _ _ ∙ sizes ∙ sym (length-set _ _ _);
        going = λ goes.
            let old = is.going goes in
            record {
              listed = record { waits = old.listed.waits; enters = old.listed.enters };
              woken = down_woken goes look old.woken;
              held = down_held look old.held (down_free old.held goes may);
            };
      }

pub unmount_keeps : (l : Look) (s after : Schedule) (c t : ℕ) → unmount l s c t ≡ Some after → IsLook l → IsScheduled l s → IsScheduled l after
unmount_keeps l s after c t e look is =
    let given = allowed_is (may_unmount l s c t) (after_unmount l s c t) after e in
    let mounts = (and_parts (has_mounted s c t) _ given.0).0 in
    subst (IsScheduled l) given.1 (down_scheduled l s c t is.sizes mounts look given.0 is)

-- ---- Step and Clock

order_of : (l : Look) (s : Schedule) (after : Look) → AreListed l s → (o : ℕ) → (t : ℕ) → count t (s.wait_list o) ≤ 1
order_of l s after listed o t = le (is_waiting o (l.spot t)) (listed.waits t o)
  where
    le : (b : Bool) → count t (s.wait_list o) ≡ once_if b → count t (s.wait_list o) ≤ 1
    le true e = omega (arith, e)
    le false e = omega (arith, e)

-- what the laws on puts stand on
step_inside : (s : Schedule) (c t : ℕ) → has_mounted s c t ≡ true → length s.deques ≡ length s.mounted → c < length s.deques
step_inside s c t mounts sizes = omega (arith, slice_get_within s.mounted c (Some t) (holds_is t (slice_get s.mounted c) mounts), sizes)

pub step_facts : (before after : Look) (s : Schedule) (c t : ℕ) (owes : ℕ → Bool) → has_mounted s c t ≡ true → IsLook before → IsLook after
    → Changes before after (Some t) → IsScheduled before s → GoesOn before s → Facts before after c (all_threads after) (λ o. beginning_with (s.wait_list o) after) s owes (Some t)
step_facts before after s c t owes mounts old look change is was =
    record {
      inside = step_inside s c t mounts is.sizes;
      in_order = all_in_order after;
      orders = λ o. beginning_in_order (s.wait_list o) after (order_of before s after was.listed o);
      old = old;
      look = look;
      change = change;
      on = λ u e. let same : t ≡ u = cc in subst (λ x. 0 < on_carriers x s) same (on_there s c t mounts);
      once = is.once;
      listed = was.listed;
      woken = was.woken;
    }

pub tick_facts : (before after : Look) (s : Schedule) (c : ℕ) → c < length s.mounted → IsLook before → IsLook after
    → Changes before after None → IsScheduled before s → GoesOn before s → Facts before after c (by_deadline before after) (λ o. by_deadline before after) s s.owes None
tick_facts before after s c within old look change is was =
    record {
      inside = omega (arith, within, is.sizes);
      in_order = by_deadline_in_order before after;
      orders = λ o. by_deadline_in_order before after;
      old = old;
      look = look;
      change = change;
      on = λ u e. absurd cc;
      once = is.once;
      listed = was.listed;
      woken = was.woken;
    }

pub step_keeps : (before after : Look) (s : Schedule) (c t : ℕ) (pick : Option ℕ) (yields : Bool) → may_step before s c t pick ≡ true → IsLook before → IsLook after
    → (after.ended ≡ false → Changes before after (Some t)) → IsScheduled before s → IsScheduled after (after_step before after s c t yields)
step_keeps before after s c t pick yields may old look change is =
    record {
      once = change_once before after c order coming s owes inside (all_in_order after) is.once;
      sizes = length-set _ _ _ ∙ is.sizes;
      going = λ goes.
          let was = is.going (goes_on (before.ended) refl) in
          let f = step_facts before after s c t owes mounts old look (change goes) is was in
          record {
            listed = change_listed before after c order coming s owes look f.orders was.listed;
            woken = change_woken before after c order coming s owes (Some t) f;
            held = held (change goes) was.held;
          };
    }
  where
    order : List ℕ
    order = all_threads after

    coming : ℕ → List ℕ
    coming = λ o. beginning_with (s.wait_list o) after

    owes : ℕ → Bool
    owes = with_value s.owes t (has_to_leave after t yields)

    mounts : has_mounted s c t ≡ true
    mounts = (and_parts (has_mounted s c t) _ may).0

    on : before.enabled t ≡ true
    on = (and_parts (before.enabled t) _ (and_parts (not (s.owes t)) _ (and_parts (has_mounted s c t) _ may).1).1).0

    inside : c < length s.deques
    inside = step_inside s c t mounts is.sizes

    goes_on : (b : Bool) → before.ended ≡ b → before.ended ≡ false
    goes_on true e = absurd (no_both (before.enabled t) on (old.over t e))
    goes_on false e = e

    leaves_free : has_to_leave after t yields ≡ true → (is_done (after.spot t) ≡ true) ⊎ (after.pinned t ≡ false)
    leaves_free e =
        elim (or_cases (is_done (after.spot t)) _ e) [
          | inl over ↦ inl over
          | inr loose ↦ inr (unpinned (after.pinned t) (and_parts (not (after.pinned t)) _ loose).0)
        ]
      where
        unpinned : (b : Bool) → not b ≡ true → b ≡ false
        unpinned true e = absurd cc
        unpinned false e = refl

    held : Changes before after (Some t) → AreHeld before s → AreHeld after (after_step before after s c t yields)
    held change was =
        record {
          pinned = λ u p.
              elim (eqb_tells u t) [
                | inl w ↦ subst (λ x. 0 < on_carriers x s) (sym w.1) (on_there s c t mounts)
                | inr w ↦ was.pinned u (sym (change.pinned u (λ e. w.1 cc)) ∙ p)
              ];
          owed = λ u there e.
              elim (eqb_tells u t) [
                | inl w ↦
                    let leaves : has_to_leave after t yields ≡ true = sym (ap (λ b. cond b (has_to_leave after t yields) (s.owes u)) w.0) ∙ e in
                    subst (λ x. (is_done (after.spot x) ≡ true) ⊎ (after.pinned x ≡ false)) (sym w.1) (leaves_free leaves)
                | inr w ↦ owed_stays before after (Some t) change u (λ e. w.1 cc) (was.owed u there (sym (ap (λ b. cond b (has_to_leave after t yields) (s.owes u)) w.0) ∙ e))
              ];
        }

pub tick_keeps : (before after : Look) (s : Schedule) (c : ℕ) → may_tick before s c ≡ true → IsLook before → IsLook after
    → (after.ended ≡ false → Changes before after None) → IsScheduled before s → IsScheduled after (after_tick before after s c)
tick_keeps before after s c may old look change is =
    record {
      once = change_once before after c order coming s s.owes inside (by_deadline_in_order before after) is.once;
      sizes = length-set _ _ _ ∙ is.sizes;
      going = λ goes.
          let was = is.going (not_ended before.ended (and_parts (not before.ended) _ may).0) in
          let f = tick_facts before after s c within old look (change goes) is was in
          record {
            listed = change_listed before after c order coming s s.owes look f.orders was.listed;
            woken = change_woken before after c order coming s s.owes None f;
            held = held (change goes) was.held;
          };
    }
  where
    order : List ℕ
    order = by_deadline before after

    coming : ℕ → List ℕ
    coming = λ o. by_deadline before after

    within : c < length s.mounted
    within = ltb-true c (length s.mounted) (and_parts (not before.ended) _ may).1

    inside : c < length s.deques
    inside = omega (arith, within, is.sizes)

    not_ended : (b : Bool) → not b ≡ true → b ≡ false
    not_ended true e = absurd cc
    not_ended false e = refl

    held : Changes before after None → AreHeld before s → AreHeld after (after_tick before after s c)
    held change was =
        record {
          pinned = λ u p. was.pinned u (sym (change.pinned u (λ e. cc)) ∙ p);
          owed = λ u there e. owed_stays before after None change u (λ e. cc) (was.owed u there e);
        }
