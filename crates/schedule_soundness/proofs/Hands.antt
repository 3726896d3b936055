-- The hand of a carrier fits after entries of others, and its steps are those of an entry.
use Rattle.std.proofs.Common.{◌≡◌, ◌≢◌, ◌≤◌, ℕ, suc, true, List, [], ◌∷◌, Some, None, refl, ap, sym, ◌∙◌, arith, cond, subst}
use Rattle.std.specs.Prelude.{get_or, set, slice_get}
use Rattle.std.proofs.lemmas.Bool.{eq-eqb, and_parts}
use Rattle.std.proofs.lemmas.List.Sums.{get_or-le-sum_by, sum_by-set}
use Rattle.std.proofs.lemmas.Option.{slice_get_within, get_or_from_slice_get}
use Rattle.items.proofs.Binds.{some_is, bind_is}
use Rattle.history.specs.declared.entry.What.{What}
use Rattle.history.specs.declared.entry.What.TheVariants.{Mount, Unmount, Step, Clock}
use Rattle.state_model.specs.Frames.{Frame}
use Rattle.schedule_model.specs.Schedule.{Schedule, places, times}
use Rattle.schedule_model.specs.Entries.{after_step, after_tick, has_mounted, holds, may_step, may_tick, mount, unmount}
use Rattle.schedule_model.specs.Run.{Scheduled, scheduled_after, with_schedule, schedule_from}
use Rattle.schedule_model.proofs.EntryLaws.{holds_is}
use Rattle.schedule_model.proofs.RunLaws.{inner, under_is}
use Rattle.ref_model.specs.Setting.{Setting}
use Rattle.ref_model.specs.State.{State, with_frames, frames_at}
use Rattle.ref_model.specs.Step.{step}
use Rattle.ref_model.specs.Run.{steps, after_steps}
use Rattle.ref_model.specs.LocalRows.{row, rows}
use Rattle.ref_model.specs.Entries.{is_grouped}
use Rattle.ref_model.specs.Looks.{look_of, grouped_steps, machine_from, yields_after}
use Rattle.ref_model.specs.Waiting.{at_time}
use Rattle.ref_model.proofs.StepLaws.{local_steps}
use Rattle.schedule_soundness.specs.HandLaws.{FitsHand, EntriesLeaveHands, HandsOutlastEntries, HandsGoOn, RowsAreEntries}
use Rattle.schedule_soundness.proofs.ThreadLists.{set_other}
use Rattle.schedule_soundness.proofs.FrameLaws.{entries_leave_others, time_leaves}
use Rattle.schedule_soundness.proofs.Reached.{grouped_is}
use Rattle.schedule_soundness.proofs.Histories.{histories_go_on, in_one_place, mounted_left}

-- ---- no thread is mounted on two carriers

-- mounted on another carrier, so another thread
another : (s : Schedule) (c k t u : ℕ) → ((x : ℕ) → places x s ≤ 1) → k ≢ c → has_mounted s c t ≡ true → has_mounted s k u ≡ true → t ≢ u
another s c k t u once ne here there same =
    let at_c = holds_is t (slice_get s.mounted c) here in
    let at_k : slice_get s.mounted k ≡ Some (Some t) = holds_is u (slice_get s.mounted k) there ∙ ap (λ x. Some (Some x)) (sym same) in
    let rest = set s.mounted c None in
    let still : slice_get rest k ≡ Some (Some t) = set_other s.mounted c k None ne ∙ at_k in
    let one : times t (Some t) ≡ 1 = ap (λ b. cond b 1 0) (eq-eqb t t refl) in
    let first : times t (get_or s.mounted c None) ≡ 1 = ap (times t) (get_or_from_slice_get s.mounted c (Some t) None at_c) ∙ one in
    let second : times t (get_or rest k None) ≡ 1 = ap (times t) (get_or_from_slice_get rest k (Some t) None still) ∙ one in
    omega (
      arith,
      once t,
      first,
      second,
      sum_by-set (times t) s.mounted c None None (slice_get_within s.mounted c (Some t) at_c),
      get_or-le-sum_by (times t) rest k None (slice_get_within rest k (Some t) still),
    )

-- ---- what an entry of another carrier does to the state

-- the frames of a thread that this carrier hasn't mounted stay
frames_stay : (p : Setting) (first : State) (v w : Scheduled State) (k t : ℕ) (frames : List Frame) (what : What)
    → ((u : ℕ) → has_mounted v.schedule k u ≡ true → t ≢ u) → scheduled_after (machine_from p first) v k what ≡ Some w
    → frames_at v.state t ≡ Some frames → frames_at w.state t ≡ Some frames
frames_stay p first v w k t frames (Mount u) apart e at =
    let s = some_is (mount (look_of p.world v.state) v.schedule k u) (λ s. Some (with_schedule v.state s)) w e in
    ap (λ (x : Scheduled State). frames_at x.state t) (sym (inner (with_schedule v.state s.0) w s.2)) ∙ at
frames_stay p first v w k t frames (Unmount u) apart e at =
    let s = some_is (unmount (look_of p.world v.state) v.schedule k u) (λ s. Some (with_schedule v.state s)) w e in
    ap (λ (x : Scheduled State). frames_at x.state t) (sym (inner (with_schedule v.state s.0) w s.2)) ∙ at
frames_stay p first v w k t frames (Step u n pick) apart e at =
    let l = look_of p.world in
    let given = under_is (may_step (l v.state) v.schedule k u pick) _ w e in
    let q = some_is (grouped_steps p v.state u n pick)
    (λ q. Some (with_schedule q (after_step (l v.state) (l q) v.schedule k u (yields_after p v.state u n)))) w given.1 in
    let same = inner (with_schedule q.0 (after_step (l v.state) (l q.0) v.schedule k u (yields_after p v.state u n))) w q.2 in
    let made = (grouped_is (is_grouped p.world v.state u n) (after_steps p v.state u n pick) q.0 q.1).1 in
    ap (λ (x : Scheduled State). frames_at x.state t) (sym same)
    ∙ entries_leave_others p v.state q.0 u n pick made t frames (apart u (and_parts (has_mounted v.schedule k u) _ given.0).0) at
frames_stay p first v w k t frames (Clock now) apart e at =
    let l = look_of p.world in
    let given = under_is (may_tick (l v.state) v.schedule k) _ w e in
    let q = some_is (at_time v.state now) (λ q. Some (with_schedule q (after_tick (l v.state) (l q) v.schedule k))) w given.1 in
    let same = inner (with_schedule q.0 (after_tick (l v.state) (l q.0) v.schedule k)) w q.2 in
    ap (λ (x : Scheduled State). frames_at x.state t) (sym same) ∙ time_leaves v.state q.0 now t frames q.1 at

-- ---- hands

pub entries_leave_hands : EntriesLeaveHands
entries_leave_hands p first v w a c k t n frames what ne e h =
    let apart : (u : ℕ) → has_mounted v.schedule k u ≡ true → t ≢ u =
    λ u there. another v.schedule c k t u (λ x. in_one_place p first v a x) ne h.mounted there in
    record {
      mounted = ap (holds t) (mounted_left p first v w a c k what ne e) ∙ h.mounted;
      base = h.base;
      has = frames_stay p first v w k t h.base what apart e h.has;
      ahead = h.ahead;
    }

pub hands_outlast : HandsOutlastEntries
hands_outlast p first v w a c t n frames [] others e h =
    subst (λ x. FitsHand p x c t n frames) (inner v w e) h
hands_outlast p first v w a c t n frames (x ∷ es) others e h =
    let u = some_is (scheduled_after (machine_from p first) v x.carrier x.what) (λ u. schedule_from (machine_from p first) u es) w e in
    hands_outlast p first u.0 w (histories_go_on p first v u.0 a x.carrier x.what u.1) c t n frames es others.1 u.2
    (entries_leave_hands p first v u.0 a c x.carrier t n frames x.what others.0 u.1 h)

pub hands_go_on : HandsGoOn
hands_go_on p v c t n frames after h e =
    record {
      mounted = h.mounted;
      base = h.base;
      has = h.has;
      ahead = bind_is (rows p.world n h.base) (row p.world) frames (Some after) h.ahead e;
    }

pub rows_are_entries : RowsAreEntries
rows_are_entries p v c t n frames pick h goes grouped =
    let s = with_frames v.state t frames in
    let made : after_steps p v.state t (suc n) pick ≡ step p s t pick =
    bind_is (steps p n v.state t) (λ q. step p q t pick) s (step p s t pick) (local_steps p v.state t n h.base frames h.has goes h.ahead) refl in
    ap (λ b. cond b (after_steps p v.state t (suc n) pick) None) grouped ∙ made
