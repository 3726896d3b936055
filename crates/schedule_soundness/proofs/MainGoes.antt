-- Main alone goes on: a history has at most three entries for each of its steps, and one more.
use Rattle.std.proofs.Common.{◌≡◌, ◌⊎◌, inl, inr, ℕ, zero, suc, ◌+◌, ◌-◌, ◌*◌, ◌<◌, ◌≤◌, Bool, true, false, List, [], ◌∷◌, length, Option, Some, None, refl, ap, sym, subst, ◌∙◌, ◌&&◌, ◌||◌, not, cond, arith}
use Rattle.std.specs.Prelude.{is_some}
use Rattle.std.proofs.lemmas.Bool.{and_parts, and_right, cases_lt, or_from}
use Rattle.items.specs.First.{Each}
use Rattle.items.proofs.Binds.{some_is}
use Rattle.history.specs.declared.entry.Entry.{Entry}
use Rattle.history.specs.declared.entry.What.{What}
use Rattle.history.specs.declared.entry.What.TheVariants.{Mount, Unmount, Step, Clock}
use Rattle.history.specs.Java.{is_java, java}
use Rattle.schedule_model.specs.Look.{Look, is_in_line}
use Rattle.schedule_model.specs.Schedule.{Schedule, on_carriers, opening_schedule, places}
use Rattle.schedule_model.specs.Entries.{after_step, came_late, has_mounted, is_last_act, may_step, may_unmount, mount, unmount, after_unmount}
use Rattle.schedule_model.specs.Run.{Scheduled, schedule_from, scheduled_after, with_schedule}
use Rattle.schedule_model.proofs.EntryLaws.{allowed_is, on_there}
use Rattle.schedule_model.proofs.RunLaws.{inner, under_is}
use Rattle.ref_model.specs.declared.ending.Ending.{Ending}
use Rattle.ref_model.specs.Setting.{Setting}
use Rattle.ref_model.specs.State.{State}
use Rattle.ref_model.specs.Ending.{ending}
use Rattle.ref_model.specs.Opening.{opening}
use Rattle.ref_model.specs.Alone.{alone, stepped_alone}
use Rattle.ref_model.specs.Enabled.{enabled}
use Rattle.ref_model.specs.Step.{step, thread_step}
use Rattle.ref_model.specs.Run.{after_steps}
use Rattle.ref_model.specs.Entries.{is_grouped}
use Rattle.ref_model.specs.Looks.{look_of, grouped_steps, machine_from, yields_after}
use Rattle.schedule_soundness.specs.Started.{OnlyMain}
use Rattle.schedule_soundness.specs.HistoryLaws.{IsProgramAfter}
use Rattle.schedule_soundness.specs.AloneLaws.{MainGoes, MainGoesOn, is_tick}
use Rattle.schedule_soundness.proofs.Steps.{guarded}
use Rattle.schedule_soundness.proofs.Reached.{grouped_is, inner_state}
use Rattle.schedule_soundness.proofs.Openings.{opens}
use Rattle.schedule_soundness.proofs.MainAlone.{started_is_main}
use Rattle.schedule_soundness.proofs.AloneLaws.{alone_entry, from, from_more, from_next, from_opening, main_opens, some_from}
use Rattle.schedule_soundness.proofs.AloneSteps.{from_over, from_past, steps_alone}
use Rattle.schedule_soundness.proofs.Histories.{histories_go_on, in_one_place}
use Rattle.schedule_soundness.proofs.Placed.{PutDown, Taken, none_on, placed_were_started, put_down, sizes_of, taken}
use Rattle.schedule_soundness.proofs.Ahead.{going}
use Rattle.schedule_soundness.proofs.Creations.{has_room}

no_both : (b : Bool) → b ≡ true → b ≡ false → ⊥
no_both b i j = absurd cc

ends_once : (o : Option Ending) (told : Ending) → o ≡ None → o ≡ Some told → ⊥
ends_once o told e f = absurd cc

-- ---- so many steps of main

-- the next step of main, where the program goes on and will have ended after so many
record NextStep (p : Setting) (r : State) (left : ℕ) : Type 0 where
  pub some : 0 < left
  pub next : State
  pub alone : stepped_alone p r ≡ Some next
  pub made : step p r 0 None ≡ Some next

next_step : (p : Setting) (q : State) (told : Ending) (r : State) (left : ℕ) → ending q ≡ Some told → ending r ≡ None → from p left (Some r) ≡ Some q
    → NextStep p r left
next_step p q told r zero over goes e = absurd (ends_once (ending r) told goes (ap ending (inner_state r q e) ∙ over))
next_step p q told r (suc left) over goes e =
    let s = some_from p left (stepped_alone p r) q (from_next p left (Some r) ∙ e) in
    record { some = omega arith; next = s.0; alone = s.1; made = (steps_alone p r s.0 goes s.1).made }

main_may : (p : Setting) (r s : State) → step p r 0 None ≡ Some s → enabled r 0 ≡ true
main_may p r s e = (guarded (enabled r 0) (thread_step p.world r 0) s e).0

-- ---- where main is, after so many entries, with so many steps left of these

data Where (n entries left : ℕ) (s : Schedule) : Type 0 where
  in_deque : on_carriers 0 s ≡ 0 → entries + 3 * left ≤ 3 * n → Where n entries left s
  mounted : 0 < on_carriers 0 s → s.owes 0 ≡ false → s.was_off 0 ≡ false → entries + 3 * left ≤ 3 * n + 1 → Where n entries left s
  stepped : 0 < on_carriers 0 s → entries + 3 * left + 1 ≤ 3 * n → Where n entries left s

most : (n entries left : ℕ) (s : Schedule) → Where n entries left s → entries + 3 * left ≤ 3 * n + 1
most n entries left s (in_deque none few) = omega arith
most n entries left s (mounted on owes off few) = few
most n entries left s (stepped on few) = omega arith

where_taken : (l : Look) (n entries left : ℕ) (s after : Schedule) (c : ℕ) → Taken l s after c 0 → places 0 s ≤ 1 → l.enabled 0 ≡ true
    → Where n entries left s → Where n (suc entries) left after
where_taken l n entries left s after c m once on (in_deque none few) = mounted m.on m.owes (m.off ∙ ap not on) (omega arith)
where_taken l n entries left s after c m once on (mounted there owes off few) = absurd (omega (arith, there, once, m.there))
where_taken l n entries left s after c m once on (stepped there few) = absurd (omega (arith, there, once, m.there))

where_put_down : (l : Look) (n entries left : ℕ) (s after : Schedule) (c : ℕ) → PutDown s after 0 → places 0 s ≤ 1 → l.ended ≡ false
    → may_unmount l s c 0 ≡ true → Where n entries left s → Where n (suc entries) left after
where_put_down l n entries left s after c m once goes may (in_deque none few) = absurd (omega (arith, none, m.on))
where_put_down l n entries left s after c m once goes may (mounted there owes off few) =
    let reason = (and_parts (has_mounted s c 0) _ may).1 in
    let given : (s.owes 0 || came_late l s 0) ≡ true = sym (ap (λ b. cond b (is_last_act l s c 0) (s.owes 0 || came_late l s 0)) goes) ∙ reason in
    let early : came_late l s 0 ≡ false =
    and_right (not (l.pinned 0)) (is_in_line (l.spot 0) && s.was_off 0) (and_right (is_in_line (l.spot 0)) (s.was_off 0) off) in
    absurd (no_both (s.owes 0 || came_late l s 0) given (or_from (s.owes 0) (came_late l s 0) owes early))
where_put_down l n entries left s after c m once goes may (stepped there few) =
    in_deque (omega (arith, m.off, m.on, once)) (omega arith)

where_stepped : (n entries left less k : ℕ) (s after : Schedule) → on_carriers 0 after ≡ on_carriers 0 s → 0 < on_carriers 0 s → 0 < k
    → left ≡ k + less → Where n entries left s → Where n (suc entries) less after
where_stepped n entries left less k s after same there some is (in_deque none few) = absurd (omega (arith, none, there))
where_stepped n entries left less k s after same there some is (mounted on owes off few) =
    stepped (omega (arith, same, there)) (omega (arith, some, is, few))
where_stepped n entries left less k s after same there some is (stepped on few) =
    stepped (omega (arith, same, there)) (omega (arith, some, is, few))

-- ---- one entry

-- the program goes on, and will have ended after so many of main's steps
record Going (p : Setting) (q : State) (n entries : ℕ) (v : Scheduled State) : Type 0 where
  pub goes : ending v.state ≡ None
  pub only : OnlyMain (look_of p.world v.state)
  pub left : ℕ
  pub rest : from p left (Some v.state) ≡ Some q
  pub main : Where n entries left v.schedule

-- or it has ended
abbrev Along : Setting → State → ℕ → ℕ → Scheduled State → Type 0
Along p q n entries v = (v.state ≡ q) ⊎ Going p q n entries v

-- who is in a place is main
is_main : (p : Setting) (first : State) (v : Scheduled State) → IsProgramAfter p first v → OnlyMain (look_of p.world v.state) → (t : ℕ)
    → 0 < places t v.schedule → t ≡ 0
is_main p first v a only t there = started_is_main p.world v.state t only (placed_were_started p first v a t there)

module _ (p : Setting) (first q : State) (told : Ending) (over : ending q ≡ Some told) (n : ℕ) where
  mount_goes : (v : Scheduled State) (s : Schedule) (c t entries : ℕ) → IsProgramAfter p first v → Going p q n entries v
      → mount (look_of p.world v.state) v.schedule c t ≡ Some s → Along p q n (suc entries) (with_schedule v.state s)
  mount_goes v s c t entries a g e =
      let l = look_of p.world v.state in
      let any = taken l v.schedule s c t (sizes_of p first v a) e in
      let main : t ≡ 0 = is_main p first v a g.only t (omega (arith, any.there)) in
      let m : Taken l v.schedule s c 0 = subst (Taken l v.schedule s c) main any in
      let on = main_may p v.state _ (next_step p q told v.state g.left over g.goes g.rest).made in
      inr (record {
        goes = g.goes;
        only = g.only;
        left = g.left;
        rest = g.rest;
        main = where_taken l n entries g.left v.schedule s c m (in_one_place p first v a 0) on g.main;
      })

  unmount_goes : (v : Scheduled State) (s : Schedule) (c t entries : ℕ) → IsProgramAfter p first v → Going p q n entries v
      → unmount (look_of p.world v.state) v.schedule c t ≡ Some s → Along p q n (suc entries) (with_schedule v.state s)
  unmount_goes v s c t entries a g e =
      let l = look_of p.world v.state in
      let any = put_down l v.schedule s c t (sizes_of p first v a) e in
      let main : t ≡ 0 = is_main p first v a g.only t (omega (arith, any.on)) in
      let m : PutDown v.schedule s 0 = subst (PutDown v.schedule s) main any in
      let may : may_unmount l v.schedule c 0 ≡ true =
      subst (λ x. may_unmount l v.schedule c x ≡ true) main (allowed_is (may_unmount l v.schedule c t) (after_unmount l v.schedule c t) s e).0 in
      inr (record {
        goes = g.goes;
        only = g.only;
        left = g.left;
        rest = g.rest;
        main = where_put_down l n entries g.left v.schedule s c m (in_one_place p first v a 0) (ap is_some g.goes) may g.main;
      })

  -- steps that lead past the end, or up to it, or not so far
  steps_go : (v : Scheduled State) (r : State) (s : Schedule) (t k entries : ℕ) (pick : Option ℕ) → Going p q n entries v → 0 < on_carriers 0 v.schedule
      → on_carriers 0 s ≡ on_carriers 0 v.schedule → after_steps p v.state t k pick ≡ Some r → Along p q n (suc entries) (with_schedule r s)
  steps_go v r s t k entries pick g there still made =
      elim (cases_lt g.left k) [
        | inl past ↦
            let far = from_past p g.left k (Some v.state) q told (omega (arith, past)) over g.rest in
            inl (sym (alone_entry p k v.state r q t pick g.only made far).is)
        | inr up ↦ inside (g.left - k) (omega (arith, up))
      ]
    where
      some : (k : ℕ) → after_steps p v.state t k pick ≡ Some r → 0 < k
      some zero e = absurd cc
      some (suc k) e = omega arith

      ends : (less : ℕ) → g.left ≡ k + less → OnlyMain (look_of p.world r) → from p less (Some r) ≡ Some q → (o : Option Ending) → ending r ≡ o
          → Along p q n (suc entries) (with_schedule r s)
      ends less is only rest (Some x) e = inl (inner_state r q (sym (from_over p less r x e) ∙ rest))
      ends less is only rest None e =
          inr (record {
            goes = e;
            only = only;
            left = less;
            rest = rest;
            main = where_stepped n entries g.left less k v.schedule s still there (some k made) is g.main;
          })

      inside : (less : ℕ) → g.left ≡ k + less → Along p q n (suc entries) (with_schedule r s)
      inside less is =
          let split : from p less (from p k (Some v.state)) ≡ Some q =
          sym (from_more p k less (Some v.state)) ∙ ap (λ m. from p m (Some v.state)) (sym is) ∙ g.rest in
          let y = some_from p less (from p k (Some v.state)) q split in
          let here = alone_entry p k v.state r y.0 t pick g.only made y.1 in
          let rest : from p less (Some r) ≡ Some q = ap (λ x. from p less (Some x)) (sym here.is) ∙ ap (from p less) (sym y.1) ∙ split in
          ends less is here.only rest (ending r) refl

  entry_goes : (v w : Scheduled State) (c entries : ℕ) (what : What) → IsProgramAfter p first v → Going p q n entries v → is_tick what ≡ false
      → scheduled_after (machine_from p first) v c what ≡ Some w → Along p q n (suc entries) w
  entry_goes v w c entries (Mount t) a g no_tick e =
      let s = some_is (mount (look_of p.world v.state) v.schedule c t) (λ s. Some (with_schedule v.state s)) w e in
      subst (Along p q n (suc entries)) (inner (with_schedule v.state s.0) w s.2) (mount_goes v s.0 c t entries a g s.1)
  entry_goes v w c entries (Unmount t) a g no_tick e =
      let s = some_is (unmount (look_of p.world v.state) v.schedule c t) (λ s. Some (with_schedule v.state s)) w e in
      subst (Along p q n (suc entries)) (inner (with_schedule v.state s.0) w s.2) (unmount_goes v s.0 c t entries a g s.1)
  entry_goes v w c entries (Step t k pick) a g no_tick e =
      let l = look_of p.world in
      let given = under_is (may_step (l v.state) v.schedule c t pick) _ w e in
      let x = some_is (grouped_steps p v.state t k pick)
      (λ x. Some (with_schedule x (after_step (l v.state) (l x) v.schedule c t (yields_after p v.state t k)))) w given.1 in
      let after = after_step (l v.state) (l x.0) v.schedule c t (yields_after p v.state t k) in
      let made = (grouped_is (is_grouped p.world v.state t k) (after_steps p v.state t k pick) x.0 x.1).1 in
      let there = on_there v.schedule c t (and_parts (has_mounted v.schedule c t) _ given.0).0 in
      let main : t ≡ 0 = is_main p first v a g.only t (omega (arith, there)) in
      subst (Along p q n (suc entries)) (inner (with_schedule x.0 after) w x.2)
      (steps_go v x.0 after t k entries pick g (subst (λ u. 0 < on_carriers u v.schedule) main there) refl made)
  entry_goes v w c entries (Clock now) a g no_tick e = absurd cc

  -- after the end the state stays
  entry_over : (v w : Scheduled State) (c : ℕ) (what : What) → v.state ≡ q → is_tick what ≡ false
      → scheduled_after (machine_from p first) v c what ≡ Some w → w.state ≡ q
  entry_over v w c (Mount t) is no_tick e =
      let s = some_is (mount (look_of p.world v.state) v.schedule c t) (λ s. Some (with_schedule v.state s)) w e in
      ap (λ (x : Scheduled State). x.state) (sym (inner (with_schedule v.state s.0) w s.2)) ∙ is
  entry_over v w c (Unmount t) is no_tick e =
      let s = some_is (unmount (look_of p.world v.state) v.schedule c t) (λ s. Some (with_schedule v.state s)) w e in
      ap (λ (x : Scheduled State). x.state) (sym (inner (with_schedule v.state s.0) w s.2)) ∙ is
  entry_over v w c (Step t k pick) is no_tick e =
      let given = under_is (may_step (look_of p.world v.state) v.schedule c t pick) _ w e in
      let rest = (and_parts (has_mounted v.schedule c t) _ given.0).1 in
      let on = (and_parts (enabled v.state t) _ (and_parts (not (v.schedule.owes t)) _ rest).1).0 in
      absurd (ends_once (ending v.state) told (going v.state t on) (ap ending is ∙ over))
  entry_over v w c (Clock now) is no_tick e = absurd cc

  entry_along : (v w : Scheduled State) (c entries : ℕ) (what : What) → IsProgramAfter p first v → is_tick what ≡ false
      → scheduled_after (machine_from p first) v c what ≡ Some w → Along p q n entries v → Along p q n (suc entries) w
  entry_along v w c entries what a no_tick e (inl is) = inl (entry_over v w c what is no_tick e)
  entry_along v w c entries what a no_tick e (inr g) = entry_goes v w c entries what a g no_tick e

-- ---- histories

entries_along : (p : Setting) (first q : State) (told : Ending) (over : ending q ≡ Some told) (n : ℕ) (es : List Entry) (v w : Scheduled State)
    (entries all : ℕ) → IsProgramAfter p first v → Each (λ (e : Entry). is_tick e.what ≡ false) es
    → schedule_from (machine_from p first) v es ≡ Some w → all ≡ entries + length es → Along p q n entries v → Along p q n all w
entries_along p first q told over n [] v w entries all a no_ticks e is so =
    let same : entries ≡ all = omega (arith, is) in subst (λ m. Along p q n m w) same (subst (Along p q n entries) (inner v w e) so)
entries_along p first q told over n (x ∷ es) v w entries all a no_ticks e is so =
    let u = some_is (scheduled_after (machine_from p first) v x.carrier x.what) (λ u. schedule_from (machine_from p first) u es) w e in
    entries_along p first q told over n es u.0 w (suc entries) all (histories_go_on p first v u.0 a x.carrier x.what u.1) no_ticks.1 u.2
    (omega (arith, is)) (entry_along p first q told over n v u.0 x.carrier entries x.what a no_ticks.0 u.1 so)

-- mounts and unmounts are no ticks
no_ticks_in : (es : List Entry) → Each (λ (e : Entry). is_tick e.what ≡ false) (java es) → Each (λ (e : Entry). is_tick e.what ≡ false) es
no_ticks_in [] each = tt
no_ticks_in (x ∷ es) each = by x.what refl each (no_ticks_in es)
  where
    by : (what : What) → x.what ≡ what → Each (λ (e : Entry). is_tick e.what ≡ false) (cond (is_java what) (x ∷ java es) (java es))
        → (Each (λ (e : Entry). is_tick e.what ≡ false) (java es) → Each (λ (e : Entry). is_tick e.what ≡ false) es)
        → (is_tick x.what ≡ false) × Each (λ (e : Entry). is_tick e.what ≡ false) es
    by (Mount t) is each rest = (ap is_tick is, rest each)
    by (Unmount t) is each rest = (ap is_tick is, rest each)
    by (Step t k pick) is each rest = (each.0, rest each.1)
    by (Clock now) is each rest = (each.0, rest each.1)

opening_along : (p : Setting) (first q : State) (told : Ending) (n carriers : ℕ) → opening p ≡ Some first → alone p n ≡ Some q → ending q ≡ Some told
    → Along p q n 0 (with_schedule first (opening_schedule carriers))
opening_along p first q told n carriers begins made over = by (ending first) refl
  where
    rest : from p n (Some first) ≡ Some q
    rest = ap (from p n) (sym begins) ∙ sym (from_opening p n) ∙ made

    by : (o : Option Ending) → ending first ≡ o → Along p q n 0 (with_schedule first (opening_schedule carriers))
    by (Some x) e = inl (inner_state first q (sym (from_over p n first x e) ∙ rest))
    by None e =
        inr (record {
          goes = e;
          only = main_opens p first (opens p first begins);
          left = n;
          rest = rest;
          main = in_deque (none_on 0 carriers) (omega arith);
        })

pub main_goes_on : MainGoesOn
main_goes_on p first carriers history v n q told begins plain some runs no_ticks made over =
    by (entries_along p first q told over n history (with_schedule first (opening_schedule carriers)) v 0 (length history)
    (record { begins = begins; plain = plain; carriers = carriers; some = some; history = []; runs = refl })
    (no_ticks_in history no_ticks) runs (omega arith) (opening_along p first q told n carriers begins made over))
  where
    by : Along p q n (length history) v → (v.state ≡ q) ⊎ MainGoes p history n v.state
    by (inl is) = inl is
    by (inr g) =
        let s = next_step p q told v.state g.left over g.goes g.rest in
        inr (record {
          goes = g.goes;
          next = s.next;
          steps = s.alone;
          may = main_may p v.state s.next s.made;
          room = has_room p v.state s.next 0 s.made;
          only = g.only;
          few = omega (arith, s.some, most n (length history) g.left v.schedule g.main);
        })
