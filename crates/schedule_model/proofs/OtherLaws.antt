-- What the entries of other carriers leave to a carrier.
use Rattle.std.proofs.Common.{◌≡◌, ◌≢◌, ◌≤◌, ◌==◌, ℕ, zero, suc, Bool, true, false, List, [], ◌∷◌, Option, None, Some, length, set, get_or, slice_get, sym, ◌∙◌, ap, subst, refl, arith, cond, inl, inr, not, ◌&&◌, ◌||◌}
use Rattle.std.proofs.lemmas.Bool.{eq-eqb, and_from, and_parts, or_cases, or_left, or_right}
use Rattle.std.proofs.lemmas.Bool.Decides.{eqb_tells}
use Rattle.std.proofs.lemmas.List.Sums.{get_or-le-sum_by, sum_by-set}
use Rattle.std.proofs.lemmas.Option.{slice_get_within, get_or_from_slice_get}
use Rattle.items.proofs.Binds.{some_is}
use Rattle.history.specs.declared.entry.What.{What}
use Rattle.history.specs.declared.entry.What.TheVariants.{Mount, Unmount, Step, Clock}
use Rattle.run_deques.specs.Take.{next}
use Rattle.schedule_model.specs.Look.{Look, is_in_line}
use Rattle.schedule_model.specs.Schedule.{Schedule, places, times, with_value}
use Rattle.schedule_model.specs.Puts.{all_threads, beginning_with, by_deadline}
use Rattle.schedule_model.specs.Entries.{after_step, after_tick, after_unmount, came_late, has_mounted, has_to_leave, holds, is_idle, is_last_act, may_step, may_tick, may_unmount, mount, mounted_from, unmount, where_allowed}
use Rattle.schedule_model.specs.Run.{Machine, Scheduled, scheduled_after, with_schedule}
use Rattle.schedule_model.specs.Changes.{Changes, IsOther}
use Rattle.schedule_model.specs.Laws.{IsAfter, OthersLeaveMounted, OthersLeaveOwed, UnmountsStayAllowed}
use Rattle.schedule_model.proofs.PutLaws.{line_of, change_with}
use Rattle.schedule_model.proofs.EntryLaws.{allowed_is, holds_is, on_there, taken_in}
use Rattle.schedule_model.proofs.RunLaws.{inner, scheduled, under_is}
use Rattle.schedule_model.proofs.PlaceLaws.{ended_before}

slice_get-set_other : {A : Type 0} (xs : List A) (i j : ℕ) (x : A) → i ≢ j → slice_get (set xs i x) j ≡ slice_get xs j
slice_get-set_other [] i j x ne = refl
slice_get-set_other (y ∷ ys) zero zero x ne = absurd (ne refl)
slice_get-set_other (y ∷ ys) zero (suc j) x ne = refl
slice_get-set_other (y ∷ ys) (suc i) zero x ne = refl
slice_get-set_other (y ∷ ys) (suc i) (suc j) x ne = slice_get-set_other ys i j x (λ e. ne (ap suc e))

-- no thread is mounted on two carriers
apart_on : (s : Schedule) (c k t u : ℕ) → ((x : ℕ) → places x s ≤ 1) → k ≢ c → has_mounted s c t ≡ true → has_mounted s k u ≡ true → u ≢ t
apart_on s c k t u once ne here there same =
    let at_c = holds_is t (slice_get s.mounted c) here in
    let at_k : slice_get s.mounted k ≡ Some (Some t) = holds_is u (slice_get s.mounted k) there ∙ ap (λ x. Some (Some x)) same in
    let rest = set s.mounted c None in
    let still : slice_get rest k ≡ Some (Some t) = slice_get-set_other s.mounted c k None (λ e. ne (sym e)) ∙ at_k in
    let one : times t (Some t) ≡ 1 = ap (λ b. cond b 1 0) (eq-eqb t t refl) in
    let first : times t (get_or s.mounted c None) ≡ 1 = ap (times t) (get_or_from_slice_get s.mounted c (Some t) None at_c) ∙ one in
    let second : times t (get_or rest k None) ≡ 1 = ap (times t) (get_or_from_slice_get rest k (Some t) None still) ∙ one in
    omega (arith, once t, first, second, sum_by-set (times t) s.mounted c None None (slice_get_within s.mounted c (Some t) at_c), get_or-le-sum_by (times t) rest k None (slice_get_within rest k (Some t) still))

allowed_still : (before after : Look) (by : Option ℕ) (k : ℕ) (order : List ℕ) (coming : ℕ → List ℕ) (s : Schedule) (owes : ℕ → Bool) (c t : ℕ) → Changes before after by → IsOther by t
    → owes t ≡ s.owes t → before.ended ≡ false → after.ended ≡ false → may_unmount before s c t ≡ true → may_unmount after (change_with before after k order coming s owes) c t ≡ true
allowed_still before after by k order coming s owes c t change other same old goes may =
    let parts = and_parts (has_mounted s c t) _ may in
    let was : (s.owes t || came_late before s t) ≡ true =
    sym (ap (λ b. cond b (is_last_act before s c t) (s.owes t || came_late before s t)) old) ∙ parts.1 in
    and_from (has_mounted s c t) _ parts.0 (ap (λ b. cond b (is_last_act after new c t) (owes t || came_late after new t)) goes ∙ reason was)
  where
    new : Schedule
    new = change_with before after k order coming s owes

    late : came_late before s t ≡ true → came_late after new t ≡ true
    late e =
        let loose = and_parts (not (before.pinned t)) _ e in
        let line = and_parts (is_in_line (before.spot t)) (s.was_off t) loose.1 in
        let spot = line_of (before.spot t) line.0 in
        and_from (not (after.pinned t)) _ (ap not (change.pinned t other) ∙ loose.0)
        (and_from (is_in_line (after.spot t)) _ (ap is_in_line (change.in_line t spot.0 other spot.1)) (or_left (s.was_off t) (not (after.enabled t)) line.1))

    reason : (s.owes t || came_late before s t) ≡ true → (owes t || came_late after new t) ≡ true
    reason e =
        elim (or_cases (s.owes t) (came_late before s t) e) [
          | inl owed ↦ or_left (owes t) (came_late after new t) (same ∙ owed)
          | inr came ↦ or_right (owes t) (came_late after new t) (late came)
        ]

-- ---- each kind of entry

-- what one entry leaves to carrier c with thread t
record Leaves (before after : Look) (s w : Schedule) (c t : ℕ) : Type 0 where
  pub owes : w.owes t ≡ s.owes t
  pub may : before.ended ≡ false → after.ended ≡ false → may_unmount before s c t ≡ true → may_unmount after w c t ≡ true

kept_may : (l : Look) (s w : Schedule) (c t : ℕ) → has_mounted w c t ≡ has_mounted s c t → w.owes t ≡ s.owes t → w.was_off t ≡ s.was_off t → l.ended ≡ false
    → may_unmount l s c t ≡ true → may_unmount l w c t ≡ true
kept_may l s w c t mounts owes off goes may =
    let parts = and_parts (has_mounted s c t) _ may in
    let was : (s.owes t || came_late l s t) ≡ true = sym (ap (λ b. cond b (is_last_act l s c t) (s.owes t || came_late l s t)) goes) ∙ parts.1 in
    let now : (w.owes t || came_late l w t) ≡ true =
    ap (λ x. x || came_late l w t) owes ∙ ap (λ x. s.owes t || (not (l.pinned t) && (is_in_line (l.spot t) && x))) off ∙ was in
    and_from (has_mounted w c t) _ (mounts ∙ parts.0) (ap (λ b. cond b (is_last_act l w c t) (w.owes t || came_late l w t)) goes ∙ now)

record Taken (l : Look) (s after : Schedule) (k : ℕ) : Type 0 where
  pub found : ℕ × ℕ
  pub first : next s.deques k ≡ Some found
  pub idle : is_idle s k ≡ true
  pub is : mounted_from l s k found ≡ after

mount_is : (l : Look) (s after : Schedule) (k t : ℕ) → mount l s k t ≡ Some after → Taken l s after k
mount_is l s after k t e =
    let found = some_is (next s.deques k) (λ found. where_allowed (not l.ended && (is_idle s k && (found.1 == t))) (mounted_from l s k found)) after e in
    let given = allowed_is (not l.ended && (is_idle s k && (found.0.1 == t))) (mounted_from l s k found.0) after found.2 in
    record {
      found = found.0;
      first = found.1;
      idle = (and_parts (is_idle s k) (found.0.1 == t) (and_parts (not l.ended) _ given.0).1).0;
      is = given.1;
    }

pub others_leave_mounted : {S : Type 0} (m : Machine S) → OthersLeaveMounted m
others_leave_mounted m v w c k (Mount t) ne e =
    let s = some_is (mount (m.look v.state) v.schedule k t) (λ s. Some (with_schedule v.state s)) w e in
    let taken = mount_is (m.look v.state) v.schedule s.0 k t s.1 in
    subst (λ (x : Scheduled _). slice_get x.schedule.mounted c ≡ slice_get v.schedule.mounted c) (ap (with_schedule v.state) taken.is ∙ inner (with_schedule v.state s.0) w s.2)
    (slice_get-set_other v.schedule.mounted k c (Some taken.found.1) ne)
others_leave_mounted m v w c k (Unmount t) ne e =
    let s = some_is (unmount (m.look v.state) v.schedule k t) (λ s. Some (with_schedule v.state s)) w e in
    let given = allowed_is (may_unmount (m.look v.state) v.schedule k t) (after_unmount (m.look v.state) v.schedule k t) s.0 s.1 in
    subst (λ (x : Scheduled _). slice_get x.schedule.mounted c ≡ slice_get v.schedule.mounted c) (ap (with_schedule v.state) given.1 ∙ inner (with_schedule v.state s.0) w s.2)
    (slice_get-set_other v.schedule.mounted k c None ne)
others_leave_mounted m v w c k (Step t n pick) ne e =
    let given = under_is (may_step (m.look v.state) v.schedule k t pick) _ w e in
    let q = some_is (m.steps v.state t n pick) (λ q. Some (with_schedule q (after_step (m.look v.state) (m.look q) v.schedule k t (m.yields v.state t n)))) w given.1 in
    let same = inner (with_schedule q.0 (after_step (m.look v.state) (m.look q.0) v.schedule k t (m.yields v.state t n))) w q.2 in
    subst (λ (x : Scheduled _). slice_get x.schedule.mounted c ≡ slice_get v.schedule.mounted c) same refl
others_leave_mounted m v w c k (Clock now) ne e =
    let given = under_is (may_tick (m.look v.state) v.schedule k) _ w e in
    let q = some_is (m.tick v.state now) (λ q. Some (with_schedule q (after_tick (m.look v.state) (m.look q) v.schedule k))) w given.1 in
    let same = inner (with_schedule q.0 (after_tick (m.look v.state) (m.look q.0) v.schedule k)) w q.2 in
    subst (λ (x : Scheduled _). slice_get x.schedule.mounted c ≡ slice_get v.schedule.mounted c) same refl

other_value : {A : Type 0} (f : ℕ → A) (u t : ℕ) (x : A) → u ≢ t → with_value f u x t ≡ f t
other_value f u t x ne =
    elim (eqb_tells t u) [ inl w ↦ absurd (ne (sym w.1)) | inr w ↦ ap (λ b. cond b x (f t)) w.0 ]

-- who is taken from a deque isn't mounted
taken_other : (l : Look) (s : Schedule) (k c t : ℕ) (found : ℕ × ℕ) → length s.deques ≡ length s.mounted → ((x : ℕ) → places x s ≤ 1) → is_idle s k ≡ true → next s.deques k ≡ Some found
    → has_mounted s c t ≡ true → found.1 ≢ t
taken_other l s k c t found sizes once idle first here same =
    let one : ◌≡◌ {A = ℕ} (cond (found.1 == t) 1 0) 1 = ap (λ x. cond (found.1 == x) 1 0) (sym same) ∙ ap (λ b. cond b 1 0) (eq-eqb found.1 found.1 refl) in
    omega (arith, once t, on_there s c t here, taken_in l s k found sizes idle first t, one)

leaves : {S : Type 0} (m : Machine S) (v w : Scheduled S) → IsAfter m v → (c k t : ℕ) (what : What) → k ≢ c → scheduled_after m v k what ≡ Some w → has_mounted v.schedule c t ≡ true
    → Leaves (m.look v.state) (m.look w.state) v.schedule w.schedule c t
leaves m v w a c k t (Mount u) ne e here =
    let l = m.look v.state in
    let is = (scheduled m v a).1 in
    let s = some_is (mount l v.schedule k u) (λ s. Some (with_schedule v.state s)) w e in
    let taken = mount_is l v.schedule s.0 k u s.1 in
    let other = taken_other l v.schedule k c t taken.found is.sizes is.once taken.idle taken.first here in
    let next = mounted_from l v.schedule k taken.found in
    let owes = other_value v.schedule.owes taken.found.1 t false other in
    let mounts : has_mounted next c t ≡ has_mounted v.schedule c t = ap (holds t) (slice_get-set_other v.schedule.mounted k c (Some taken.found.1) ne) in
    subst (λ (x : Scheduled _). Leaves l (m.look x.state) v.schedule x.schedule c t) (ap (with_schedule v.state) taken.is ∙ inner (with_schedule v.state s.0) w s.2)
    record {
      owes = owes;
      may = λ goes after may. kept_may l v.schedule next c t mounts owes (other_value v.schedule.was_off taken.found.1 t (not (l.enabled taken.found.1)) other) goes may;
    }
leaves m v w a c k t (Unmount u) ne e here =
    let l = m.look v.state in
    let s = some_is (unmount l v.schedule k u) (λ s. Some (with_schedule v.state s)) w e in
    let given = allowed_is (may_unmount l v.schedule k u) (after_unmount l v.schedule k u) s.0 s.1 in
    let next = after_unmount l v.schedule k u in
    let mounts : has_mounted next c t ≡ has_mounted v.schedule c t = ap (holds t) (slice_get-set_other v.schedule.mounted k c None ne) in
    subst (λ (x : Scheduled _). Leaves l (m.look x.state) v.schedule x.schedule c t) (ap (with_schedule v.state) given.1 ∙ inner (with_schedule v.state s.0) w s.2)
    record { owes = refl; may = λ goes after may. kept_may l v.schedule next c t mounts refl refl goes may }
leaves m v w a c k t (Step u n pick) ne e here =
    let l = m.look v.state in
    let is = scheduled m v a in
    let given = under_is (may_step l v.schedule k u pick) _ w e in
    let q = some_is (m.steps v.state u n pick) (λ q. Some (with_schedule q (after_step l (m.look q) v.schedule k u (m.yields v.state u n)))) w given.1 in
    let same = inner (with_schedule q.0 (after_step l (m.look q.0) v.schedule k u (m.yields v.state u n))) w q.2 in
    let other = apart_on v.schedule c k t u is.1.once ne here (and_parts (has_mounted v.schedule k u) _ given.0).0 in
    let owing = with_value v.schedule.owes u (has_to_leave (m.look q.0) u (m.yields v.state u n)) in
    let owes = other_value v.schedule.owes u t (has_to_leave (m.look q.0) u (m.yields v.state u n)) other in
    subst (λ (x : Scheduled _). Leaves l (m.look x.state) v.schedule x.schedule c t) same
    record {
      owes = owes;
      may = λ goes after may.
          allowed_still l (m.look q.0) (Some u) k (all_threads (m.look q.0)) (λ o. beginning_with (v.schedule.wait_list o) (m.look q.0)) v.schedule owing c t
          (a.promises.steps v.state q.0 u n pick is.0 q.1 after) (λ e. other cc) owes goes after may;
    }
leaves m v w a c k t (Clock now) ne e here =
    let l = m.look v.state in
    let is = scheduled m v a in
    let given = under_is (may_tick l v.schedule k) _ w e in
    let q = some_is (m.tick v.state now) (λ q. Some (with_schedule q (after_tick l (m.look q) v.schedule k))) w given.1 in
    let same = inner (with_schedule q.0 (after_tick l (m.look q.0) v.schedule k)) w q.2 in
    subst (λ (x : Scheduled _). Leaves l (m.look x.state) v.schedule x.schedule c t) same
    record {
      owes = refl;
      may = λ goes after may.
          allowed_still l (m.look q.0) None k (by_deadline l (m.look q.0)) (λ o. by_deadline l (m.look q.0)) v.schedule v.schedule.owes c t
          (a.promises.ticks v.state q.0 now is.0 q.1 after) (λ e. cc) refl goes after may;
    }

pub others_leave_owed : {S : Type 0} (m : Machine S) → OthersLeaveOwed m
others_leave_owed m v w a c k t what ne e here = (leaves m v w a c k t what ne e here).owes

-- a program that has ended doesn't go on
went : {S : Type 0} (m : Machine S) (v w : Scheduled S) → IsAfter m v → (k : ℕ) (what : What) → scheduled_after m v k what ≡ Some w → (m.look w.state).ended ≡ false → (m.look v.state).ended ≡ false
went m v w a k (Mount t) e goes =
    let s = some_is (mount (m.look v.state) v.schedule k t) (λ s. Some (with_schedule v.state s)) w e in
    ap (λ (x : Scheduled _). (m.look x.state).ended) (inner (with_schedule v.state s.0) w s.2) ∙ goes
went m v w a k (Unmount t) e goes =
    let s = some_is (unmount (m.look v.state) v.schedule k t) (λ s. Some (with_schedule v.state s)) w e in
    ap (λ (x : Scheduled _). (m.look x.state).ended) (inner (with_schedule v.state s.0) w s.2) ∙ goes
went m v w a k (Step t n pick) e goes =
    let may = (under_is (may_step (m.look v.state) v.schedule k t pick) _ w e).0 in
    let rest = (and_parts (has_mounted v.schedule k t) _ may).1 in
    let on = (and_parts ((m.look v.state).enabled t) _ (and_parts (not (v.schedule.owes t)) _ rest).1).0 in
    ended_before (m.look v.state) (a.promises.looks v.state (scheduled m v a).0) t on
went m v w a k (Clock now) e goes =
    let may = (under_is (may_tick (m.look v.state) v.schedule k) _ w e).0 in
    not_true (m.look v.state).ended (and_parts (not (m.look v.state).ended) _ may).0
  where
    not_true : (b : Bool) → not b ≡ true → b ≡ false
    not_true true e = absurd cc
    not_true false e = refl

pub stay_allowed : {S : Type 0} (m : Machine S) → UnmountsStayAllowed m
stay_allowed m v w a c k t what ne e goes may =
    let here = (and_parts (has_mounted v.schedule c t) _ may).0 in
    (leaves m v w a c k t what ne e here).may (went m v w a k what e goes) goes may
