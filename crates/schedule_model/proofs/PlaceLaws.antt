-- What the places of threads tell, and what stays allowed.
use Rattle.std.proofs.Common.{◌≡◌, ◌<◌, ℕ, Bool, true, false, List, [], ◌∷◌, None, Some, sym, ◌∙◌, ap, refl, arith, cond, ◌⊎◌, inl, inr, not, ◌||◌}
use Rattle.std.specs.List.{list_any}
use Rattle.std.proofs.lemmas.Bool.{ltb-true, cases_Bool, or_from, and_parts, and_from}
use Rattle.schedule_model.specs.Look.{Look, IsLook, is_done, is_in_line}
use Rattle.schedule_model.specs.Schedule.{Schedule, places, with_value}
use Rattle.schedule_model.specs.Puts.{all_threads, beginning_with, by_deadline}
use Rattle.schedule_model.specs.Entries.{came_late, has_mounted, has_to_leave, is_last_act}
use Rattle.schedule_model.specs.Run.{Machine}
use Rattle.schedule_model.specs.Stalled.{can_go_on, has_time}
use Rattle.schedule_model.specs.Woken.{AreWoken}
use Rattle.schedule_model.specs.Laws.{DequesHaveLooseThreads, InOnePlace, ListsHaveTheirThreads, MountedIsInNoDeque, NoWakeUpIsLost, PinnedThreadsAreMounted, PinnedThreadsStay, PlacesTell, StallsByPlaces, StepsPutWhoIsEnabled, TicksPutWhoIsEnabled}
use Rattle.schedule_model.proofs.PutLaws.{line_of, no_both, put_is_now}
use Rattle.schedule_model.proofs.EntryLaws.{down_free, step_facts, tick_facts}
use Rattle.schedule_model.proofs.RunLaws.{reached_step, reached_tick, scheduled}

pub one_place : {S : Type 0} (m : Machine S) → InOnePlace m
one_place m v a t = (scheduled m v a).1.once t

pub in_no_deque : {S : Type 0} (m : Machine S) → MountedIsInNoDeque m
in_no_deque m v a t h = omega (arith, h, one_place m v a t)

pub in_deques_loose : {S : Type 0} (m : Machine S) → DequesHaveLooseThreads m
in_deques_loose m v a goes t h =
    let is = (scheduled m v a).1 in
    (((is.going goes).woken.deques t h).0, omega (arith, h, is.once t))

pub none_lost : {S : Type 0} (m : Machine S) → NoWakeUpIsLost m
none_lost m v a goes = ((scheduled m v a).1.going goes).woken

pub lists_have : {S : Type 0} (m : Machine S) → ListsHaveTheirThreads m
lists_have m v a goes = ((scheduled m v a).1.going goes).listed

pub pinned_mounted : {S : Type 0} (m : Machine S) → PinnedThreadsAreMounted m
pinned_mounted m v a goes = ((scheduled m v a).1.going goes).held

pub pinned_stay : {S : Type 0} (m : Machine S) → PinnedThreadsStay m
pinned_stay m v a c t may = by_end ((m.look v.state).ended) refl
  where
    by_end : (b : Bool) → (m.look v.state).ended ≡ b → (is_done ((m.look v.state).spot t) ≡ true) ⊎ ((m.look v.state).pinned t ≡ false)
    by_end true over =
        let reason = (and_parts (has_mounted v.schedule c t) _ may).1 in
        let last : is_last_act (m.look v.state) v.schedule c t ≡ true =
        sym (ap (λ b. cond b (is_last_act (m.look v.state) v.schedule c t) (v.schedule.owes t || came_late (m.look v.state) v.schedule t)) over) ∙ reason in
        inl (and_parts (is_done ((m.look v.state).spot t)) _ last).0
    by_end false goes =
        let is = (scheduled m v a).1 in
        down_free (m.look v.state) v.schedule c t is.sizes (and_parts (has_mounted v.schedule c t) _ may).0 (is.going goes).held goes may

-- an enabled thread is in a place, or in line, and then another of that line is in a place and enabled
places_tell_by : (l : Look) (s : Schedule) → IsLook l → AreWoken l s → l.ended ≡ false → ((t : ℕ) → 0 < places t s → l.enabled t ≡ false) → (t : ℕ) → l.enabled t ≡ false
places_tell_by l s look woken goes off t =
    elim (cases_Bool (l.enabled t)) [
      | inr no_step ↦ no_step
      | inl on ↦
          elim (cases_Bool (is_in_line (l.spot t))) [
            | inr free ↦ absurd (no_both (l.enabled t) on (off t (woken.ready t on free)))
            | inl line ↦
                let w = line_of (l.spot t) line in
                elim (cases_Bool (l.owned w.0)) [
                  | inl owned ↦ absurd (no_both (l.enabled t) on (look.line t w.0 goes w.1 ∙ ap not owned))
                  | inr free ↦
                      let someone = woken.line t w.0 w.1 free in
                      let steps : l.enabled someone.thread ≡ true = look.line someone.thread w.0 goes someone.in_line ∙ ap not free in
                      absurd (no_both (l.enabled someone.thread) steps (off someone.thread someone.placed))
                ]
          ]
    ]

pub places_tell : {S : Type 0} (m : Machine S) → PlacesTell m
places_tell m v a goes off =
    let w = scheduled m v a in
    places_tell_by (m.look v.state) v.schedule (a.promises.looks v.state w.0) (w.1.going goes).woken goes off

none_any : (p : ℕ → Bool) (xs : List ℕ) → ((t : ℕ) → p t ≡ false) → list_any p xs ≡ false
none_any p [] h = refl
none_any p (x ∷ xs) h = or_from (p x) (list_any p xs) (h x) (none_any p xs h)

pub stalls_by_places : {S : Type 0} (m : Machine S) → StallsByPlaces m
stalls_by_places m v a goes off timeless =
    let l = m.look v.state in
    let steps = places_tell m v a goes off in
    let hopeless = none_any (can_go_on l) (all_threads l) (λ t. or_from (l.enabled t) (has_time l t) (steps t) (timeless t)) in
    and_from (not l.ended) (not (list_any (can_go_on l) (all_threads l))) (ap not goes) (ap not hopeless)

-- ---- who is put

pub ended_before : (l : Look) → IsLook l → (t : ℕ) → l.enabled t ≡ true → l.ended ≡ false
ended_before l look t on = by_end l.ended refl
  where
    by_end : (b : Bool) → l.ended ≡ b → l.ended ≡ false
    by_end true e = absurd (no_both (l.enabled t) on (look.over t e))
    by_end false e = e

pub steps_put : {S : Type 0} (m : Machine S) → StepsPutWhoIsEnabled m
steps_put m v a q c t n pick may next goes u none off =
    let w = scheduled m v a in
    let before = m.look v.state in
    let after = m.look q in
    let old = a.promises.looks v.state w.0 in
    let parts = and_parts (has_mounted v.schedule c t) _ may in
    let on = (and_parts (before.enabled t) _ (and_parts (not (v.schedule.owes t)) _ parts.1).1).0 in
    let owes = with_value v.schedule.owes t (has_to_leave after t (m.yields v.state t n)) in
    let f = step_facts before after v.schedule c t owes parts.0 old (a.promises.looks q (reached_step m v.state q t n pick w.0 next)) (a.promises.steps v.state q t n pick w.0 next goes) w.1 (w.1.going (ended_before before old t on)) in
    put_is_now before after c (all_threads after) (λ o. beginning_with (v.schedule.wait_list o) after) v.schedule owes (Some t) f u none off

pub ticks_put : {S : Type 0} (m : Machine S) → TicksPutWhoIsEnabled m
ticks_put m v a q c now may next goes u none off =
    let w = scheduled m v a in
    let before = m.look v.state in
    let after = m.look q in
    let old = a.promises.looks v.state w.0 in
    let parts = and_parts (not before.ended) _ may in
    let f = tick_facts before after v.schedule c (ltb-true c _ parts.1) old (a.promises.looks q (reached_tick m v.state q now w.0 next)) (a.promises.ticks v.state q now w.0 next goes) w.1 (w.1.going (not_true before.ended parts.0)) in
    put_is_now before after c (by_deadline before after) (λ o. by_deadline before after) v.schedule v.schedule.owes None f u none off
  where
    not_true : (b : Bool) → not b ≡ true → b ≡ false
    not_true true e = absurd cc
    not_true false e = refl
