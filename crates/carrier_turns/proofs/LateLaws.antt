-- A mounted thread that can't step, and whose Unmount isn't owed, came too late for a monitor. So it may be unmounted.
use Rattle.std.proofs.Common.{◌≡◌, ◌≢◌, ◌⊎◌, inl, inr, ◌<◌, ◌==◌, ℕ, zero, suc, Bool, true, false, not, List, [], ◌∷◌, Option, Some, None, slice_get, refl, ap, sym, ◌∙◌, subst, cond, arith, ◌&&◌, ◌||◌}
use Rattle.std.specs.Prelude.{slice_set, replicate}
use Rattle.std.proofs.lemmas.Bool.{and_cases, and_from, and_parts, cases_eq, eq-eqb, ne_eqb, not-false, or_left, or_parts, or_right}
use Rattle.items.proofs.Binds.{some_is}
use Rattle.history.specs.declared.entry.Entry.{Entry}
use Rattle.history.specs.declared.entry.What.{What}
use Rattle.history.specs.declared.entry.What.TheVariants.{Mount, Unmount, Step, Clock}
use Rattle.run_deques.specs.Take.{next}
use Rattle.schedule_model.specs.Look.{IsLook, Look, is_done, is_in_line}
use Rattle.schedule_model.specs.Schedule.{Schedule, in_deques, opening_schedule, with_value}
use Rattle.schedule_model.specs.Changes.{Changes, IsOther}
use Rattle.schedule_model.specs.Entries.{after_step, after_tick, after_unmount, came_late, has_mounted, has_to_leave, holds, is_idle, is_last_act, may_step, may_tick, may_unmount, mount, mounted_from, unmount, where_allowed}
use Rattle.schedule_model.specs.Run.{Scheduled, schedule_from, scheduled_after, with_schedule}
use Rattle.schedule_model.specs.Woken.{IsScheduled}
use Rattle.schedule_model.proofs.EntryLaws.{allowed_is, holds_is, taken_in}
use Rattle.schedule_model.proofs.PlaceLaws.{ended_before}
use Rattle.schedule_model.proofs.PutLaws.{line_of, no_both, no_list, other_or}
use Rattle.schedule_model.proofs.RunLaws.{inner, scheduled, under_is}
use Rattle.ref_model.specs.Setting.{Setting}
use Rattle.ref_model.specs.State.{State}
use Rattle.ref_model.specs.Waiting.{at_time}
use Rattle.ref_model.specs.Looks.{grouped_steps, look_of, machine_from, yields_after}
use Rattle.schedule_soundness.specs.HistoryLaws.{IsProgramAfter}
use Rattle.schedule_soundness.proofs.Histories.{histories_go_on, is_after}
use Rattle.schedule_soundness.proofs.ThreadLists.{set_other}

-- ---- one thread

-- it may step, or is pinned, or there was a time since its mount at which it couldn't take the monitor that it is in line for
abbrev MayWait : Look → (ℕ → Bool) → ℕ → Type 0
MayWait l off t = (l.enabled t ≡ true) ⊎ ((l.pinned t ≡ true) ⊎ ((is_in_line (l.spot t) ≡ true) × (off t ≡ true)))

-- a step of another, or a tick
other_waits : (before after : Look) (by : Option ℕ) (off : ℕ → Bool) (t : ℕ) → IsLook before → Changes before after by → IsOther by t
    → MayWait before off t → MayWait after (λ u. off u || not (after.enabled u)) t
other_waits before after by off t look changes other (inl on) = by_line (is_in_line (before.spot t)) refl
  where
    by_on : (o : ℕ) → is_in_line (after.spot t) ≡ true → (b : Bool) → after.enabled t ≡ b → MayWait after (λ u. off u || not (after.enabled u)) t
    by_on o line true is = inl is
    by_on o line false is = inr (inr (line, or_right (off t) (not (after.enabled t)) (ap not is)))

    by_line : (b : Bool) → is_in_line (before.spot t) ≡ b → MayWait after (λ u. off u || not (after.enabled u)) t
    by_line true is =
        let w = line_of (before.spot t) is in
        by_on w.0 (ap is_in_line (changes.in_line t w.0 other w.1)) (after.enabled t) refl
    by_line false is =
        let spot = no_list (before.spot t) (look.live t on) is (λ o waits. no_both (before.enabled t) on (look.waits t o waits)) in
        inl (changes.ready t other spot on).1
other_waits before after by off t look changes other (inr (inl pinned)) = inr (inl (changes.pinned t other ∙ pinned))
other_waits before after by off t look changes other (inr (inr (line, was))) =
    let w = line_of (before.spot t) line in
    inr (inr (ap is_in_line (changes.in_line t w.0 other w.1), or_left (off t) (not (after.enabled t)) was))

-- its own step
own_waits : (after : Look) (off : ℕ → Bool) (t : ℕ) (yields : Bool) → has_to_leave after t yields ≡ false → MayWait after off t
own_waits after off t yields stays =
    by (and_cases (not (after.pinned t)) (yields || not (after.enabled t)) (or_parts (is_done (after.spot t)) _ stays).1)
  where
    by : (not (after.pinned t) ≡ false) ⊎ ((yields || not (after.enabled t)) ≡ false) → MayWait after off t
    by (inl held) = inr (inl (not-false (after.pinned t) held))
    by (inr goes) = inl (not-false (after.enabled t) (or_parts yields (not (after.enabled t)) goes).1)

-- ---- all mounted threads

abbrev AreWaiting : Look → Schedule → Type 0
AreWaiting l s = l.ended ≡ false → (c t : ℕ) → has_mounted s c t ≡ true → s.owes t ≡ false → MayWait l s.was_off t

other_value : {A : Type 0} (f : ℕ → A) (u t : ℕ) (x : A) → u ≢ t → with_value f u x t ≡ f t
other_value f u t x ne = ap (λ b. cond b x (f t)) (ne_eqb t u (λ e. ne (sym e)))

own_value : {A : Type 0} (f : ℕ → A) (t : ℕ) (x : A) → with_value f t x t ≡ x
own_value f t x = ap (λ b. cond b x (f t)) (eq-eqb t t refl)

set_own : {A : Type 0} (xs : List A) (k : ℕ) (x y : A) → slice_get (slice_set xs k x) k ≡ Some y → y ≡ x
set_own [] k x y e = absurd cc
set_own (z ∷ zs) zero x y e = cc
set_own (z ∷ zs) (suc k) x y e = set_own zs k x y e

no_true : (b : Bool) → b ≡ true → b ≡ false → ⊥
no_true b e f = absurd cc

-- a mount: who was in a deque may step, or is in line, and then it is seen now whether it may
mount_waits : (l : Look) (s : Schedule) (k : ℕ) (found : ℕ × ℕ) → IsScheduled l s → is_idle s k ≡ true → next s.deques k ≡ Some found → AreWaiting l s
    → AreWaiting l (mounted_from l s k found)
mount_waits l s k found is idle first waits = λ goes c t on free. by goes c t on free (cases_eq found.1 t)
  where
    inside : 0 < in_deques found.1 s
    inside =
        let here : ◌≡◌ {A = ℕ} (cond (found.1 == found.1) 1 0) 1 = ap (λ b. cond b 1 0) (eq-eqb found.1 found.1 refl) in
        omega (arith, here, taken_in l s k found is.sizes idle first found.1)

    taken : l.ended ≡ false → (b : Bool) → l.enabled found.1 ≡ b → MayWait l (mounted_from l s k found).was_off found.1
    taken goes true on = inl on
    taken goes false off =
        let ready = ((is.going goes).woken.deques found.1 inside).1 in
        let line : is_in_line (l.spot found.1) ≡ true = sym (ap (λ b. b || is_in_line (l.spot found.1)) off) ∙ ready in
        inr (inr (line, own_value s.was_off found.1 (not (l.enabled found.1)) ∙ ap not off))

    by : l.ended ≡ false → (c t : ℕ) → has_mounted (mounted_from l s k found) c t ≡ true → (mounted_from l s k found).owes t ≡ false
        → (found.1 ≡ t) ⊎ (found.1 ≡ t → ⊥) → MayWait l (mounted_from l s k found).was_off t
    by goes c t on free (inl same) = subst (MayWait l (mounted_from l s k found).was_off) same (taken goes (l.enabled found.1) refl)
    by goes c t on free (inr other) =
        elim (cases_eq c k) [
          | inl same ↦
              let at = holds_is t (slice_get (slice_set s.mounted k (Some found.1)) c) on in
              let there : ◌≡◌ {A = Option ℕ} (Some t) (Some found.1) =
              set_own s.mounted k (Some found.1) (Some t) (ap (slice_get (slice_set s.mounted k (Some found.1))) (sym same) ∙ at) in
              absurd (other (let e = there in cc))
          | inr apart ↦
              let before : has_mounted s c t ≡ true = sym (ap (holds t) (set_other s.mounted k c (Some found.1) apart)) ∙ on in
              let owes = sym (other_value s.owes found.1 t false other) ∙ free in
              as_before (waits goes c t before owes)
        ]
      where
        as_before : MayWait l s.was_off t → MayWait l (mounted_from l s k found).was_off t
        as_before (inl on) = inl on
        as_before (inr (inl pinned)) = inr (inl pinned)
        as_before (inr (inr (line, was))) = inr (inr (line, other_value s.was_off found.1 t (not (l.enabled found.1)) other ∙ was))

unmount_waits : (l : Look) (s : Schedule) (k u : ℕ) → AreWaiting l s → AreWaiting l (after_unmount l s k u)
unmount_waits l s k u waits = λ goes c t on free. by goes c t on free (cases_eq c k)
  where
    by : l.ended ≡ false → (c t : ℕ) → has_mounted (after_unmount l s k u) c t ≡ true → s.owes t ≡ false → (c ≡ k) ⊎ (c ≡ k → ⊥) → MayWait l s.was_off t
    by goes c t on free (inl same) =
        let at = holds_is t (slice_get (slice_set s.mounted k None) c) on in
        let there : ◌≡◌ {A = Option ℕ} (Some t) None = set_own s.mounted k None (Some t) (ap (slice_get (slice_set s.mounted k None)) (sym same) ∙ at) in
        absurd cc
    by goes c t on free (inr apart) = waits goes c t (sym (ap (holds t) (set_other s.mounted k c None apart)) ∙ on) free

-- ---- each entry

not_true : (b : Bool) → not b ≡ true → b ≡ false
not_true true e = absurd cc
not_true false e = refl

entry_waits : (p : Setting) (first : State) (v w : Scheduled State) → IsProgramAfter p first v → (k : ℕ) (what : What)
    → scheduled_after (machine_from p first) v k what ≡ Some w → AreWaiting (look_of p.world v.state) v.schedule
    → AreWaiting (look_of p.world w.state) w.schedule
entry_waits p first v w a k (Mount u) e waits =
    let l = look_of p.world v.state in
    let is = scheduled (machine_from p first) v (is_after p first v a) in
    let s = some_is (mount l v.schedule k u) (λ s. Some (with_schedule v.state s)) w e in
    let found = some_is (next v.schedule.deques k)
    (λ found. where_allowed (not l.ended && (is_idle v.schedule k && (found.1 == u))) (mounted_from l v.schedule k found)) s.0 s.1 in
    let given = allowed_is (not l.ended && (is_idle v.schedule k && (found.0.1 == u))) (mounted_from l v.schedule k found.0) s.0 found.2 in
    let idle = (and_parts (is_idle v.schedule k) (found.0.1 == u) (and_parts (not l.ended) _ given.0).1).0 in
    subst (λ (x : Scheduled State). AreWaiting (look_of p.world x.state) x.schedule) (ap (with_schedule v.state) given.1 ∙ inner (with_schedule v.state s.0) w s.2)
    (mount_waits l v.schedule k found.0 is.1 idle found.1 waits)
entry_waits p first v w a k (Unmount u) e waits =
    let l = look_of p.world v.state in
    let s = some_is (unmount l v.schedule k u) (λ s. Some (with_schedule v.state s)) w e in
    let given = allowed_is (may_unmount l v.schedule k u) (after_unmount l v.schedule k u) s.0 s.1 in
    subst (λ (x : Scheduled State). AreWaiting (look_of p.world x.state) x.schedule) (ap (with_schedule v.state) given.1 ∙ inner (with_schedule v.state s.0) w s.2)
    (unmount_waits l v.schedule k u waits)
entry_waits p first v w a k (Step u n pick) e waits =
    let m = machine_from p first in
    let l = look_of p.world in
    let after = is_after p first v a in
    let is = scheduled m v after in
    let given = under_is (may_step (l v.state) v.schedule k u pick) _ w e in
    let q = some_is (grouped_steps p v.state u n pick)
    (λ q. Some (with_schedule q (after_step (l v.state) (l q) v.schedule k u (yields_after p v.state u n)))) w given.1 in
    let same = inner (with_schedule q.0 (after_step (l v.state) (l q.0) v.schedule k u (yields_after p v.state u n))) w q.2 in
    let rest = and_parts (not (v.schedule.owes u)) _ (and_parts (has_mounted v.schedule k u) _ given.0).1 in
    let went = ended_before (l v.state) (after.promises.looks v.state is.0) u (and_parts ((l v.state).enabled u) _ rest.1).0 in
    let leaves = has_to_leave (l q.0) u (yields_after p v.state u n) in
    subst (λ (x : Scheduled State). AreWaiting (look_of p.world x.state) x.schedule) same
    (λ goes c t on free. elim (other_or (Some u) t) [
      | inl own ↦
          let here : u ≡ t = let o = own in cc in
          let stays : leaves ≡ false = sym (own_value v.schedule.owes u leaves) ∙ ap (with_value v.schedule.owes u leaves) here ∙ free in
          subst (MayWait (l q.0) (λ x. v.schedule.was_off x || not ((l q.0).enabled x))) here
          (own_waits (l q.0) (λ x. v.schedule.was_off x || not ((l q.0).enabled x)) u (yields_after p v.state u n) stays)
      | inr other ↦
          let apart : u ≢ t = λ i. other (ap Some i) in
          other_waits (l v.state) (l q.0) (Some u) v.schedule.was_off t (after.promises.looks v.state is.0)
          (after.promises.steps v.state q.0 u n pick is.0 q.1 goes) other
          (waits went c t on (sym (other_value v.schedule.owes u t leaves apart) ∙ free))
    ])
entry_waits p first v w a k (Clock now) e waits =
    let m = machine_from p first in
    let l = look_of p.world in
    let after = is_after p first v a in
    let is = scheduled m v after in
    let given = under_is (may_tick (l v.state) v.schedule k) _ w e in
    let q = some_is (at_time v.state now) (λ q. Some (with_schedule q (after_tick (l v.state) (l q) v.schedule k))) w given.1 in
    let same = inner (with_schedule q.0 (after_tick (l v.state) (l q.0) v.schedule k)) w q.2 in
    let went = not_true (l v.state).ended (and_parts (not (l v.state).ended) _ given.0).0 in
    subst (λ (x : Scheduled State). AreWaiting (look_of p.world x.state) x.schedule) same
    (λ goes c t on free.
    other_waits (l v.state) (l q.0) None v.schedule.was_off t (after.promises.looks v.state is.0) (after.promises.ticks v.state q.0 now is.0 q.1 goes) (λ e. cc)
    (waits went c t on free))

-- ---- histories

entries_wait : (p : Setting) (first : State) (es : List Entry) (v w : Scheduled State) → IsProgramAfter p first v
    → schedule_from (machine_from p first) v es ≡ Some w → AreWaiting (look_of p.world v.state) v.schedule → AreWaiting (look_of p.world w.state) w.schedule
entries_wait p first [] v w a e waits = subst (λ (x : Scheduled State). AreWaiting (look_of p.world x.state) x.schedule) (inner v w e) waits
entries_wait p first (x ∷ es) v w a e waits =
    let u = some_is (scheduled_after (machine_from p first) v x.carrier x.what) (λ u. schedule_from (machine_from p first) u es) w e in
    entries_wait p first es u.0 w (histories_go_on p first v u.0 a x.carrier x.what u.1) u.2 (entry_waits p first v u.0 a x.carrier x.what u.1 waits)

none_mounted : (n c t : ℕ) → holds t (slice_get (replicate n None) c) ≡ true → ⊥
none_mounted zero c t e = absurd cc
none_mounted (suc n) zero t e = absurd cc
none_mounted (suc n) (suc c) t e = none_mounted n c t e

opening_waits : (l : Look) (carriers : ℕ) → AreWaiting l (opening_schedule carriers)
opening_waits l carriers = λ goes c t on free. absurd (none_mounted carriers c t on)

pub mounted_wait : (p : Setting) (first : State) (v : Scheduled State) → IsProgramAfter p first v → AreWaiting (look_of p.world v.state) v.schedule
mounted_wait p first v a =
    let begin = with_schedule first (opening_schedule a.carriers) in
    entries_wait p first a.history begin v (record {
      begins = a.begins;
      plain = a.plain;
      carriers = a.carriers;
      some = a.some;
      history = [];
      runs = refl;
    }) a.runs (opening_waits (look_of p.world first) a.carriers)

-- ---- who may be unmounted

pub late_leaves : (p : Setting) (first : State) (v : Scheduled State) (c t : ℕ) → IsProgramAfter p first v → (look_of p.world v.state).ended ≡ false
    → has_mounted v.schedule c t ≡ true → v.schedule.owes t ≡ false → (look_of p.world v.state).pinned t ≡ false → (look_of p.world v.state).enabled t ≡ false
    → may_unmount (look_of p.world v.state) v.schedule c t ≡ true
late_leaves p first v c t a goes on free loose off = by (mounted_wait p first v a goes c t on free)
  where
    l : Look
    l = look_of p.world v.state

    s : Schedule
    s = v.schedule

    by : MayWait l s.was_off t → may_unmount l s c t ≡ true
    by (inl steps) = absurd (no_true (l.enabled t) steps off)
    by (inr (inl pinned)) = absurd (no_true (l.pinned t) pinned loose)
    by (inr (inr (line, was))) =
        let late : came_late l s t ≡ true = and_from (not (l.pinned t)) (is_in_line (l.spot t) && s.was_off t) (ap not loose)
        (and_from (is_in_line (l.spot t)) (s.was_off t) line was) in
        and_from (has_mounted s c t) (cond l.ended (is_last_act l s c t) (s.owes t || came_late l s t)) on
        (ap (λ b. cond b (is_last_act l s c t) (s.owes t || came_late l s t)) goes ∙ or_right (s.owes t) (came_late l s t) late)
