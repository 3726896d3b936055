-- Who is in a place was started.
use Rattle.std.proofs.Common.{◌≡◌, ◌≢◌, ◌⊎◌, inl, inr, eqb, ◌==◌, ◌+◌, ◌<◌, ℕ, zero, suc, Bool, true, false, List, [], ◌∷◌, length, Option, Some, None, refl, ap, subst, ◌∙◌, ◌&&◌, ◌||◌, not, cond, arith, replicate}
use Rattle.std.specs.Prelude.{is_none, slice_get}
use Rattle.std.proofs.lemmas.Bool.{and_parts, and_left, and_right, cases_lt, eq-eqb, eqb-true, ltb-true, or_from, or_left}
use Rattle.std.proofs.lemmas.Bool.Decides.{eqb_tells}
use Rattle.std.proofs.lemmas.List.{length-replicate}
use Rattle.std.proofs.lemmas.List.Sums.{sum_by-cons}
use Rattle.std.proofs.lemmas.Option.{slice_get_within}
use Rattle.items.proofs.Binds.{some_is}
use Rattle.history.specs.declared.entry.Entry.{Entry}
use Rattle.history.specs.declared.entry.What.{What}
use Rattle.history.specs.declared.entry.What.TheVariants.{Mount, Unmount, Step, Clock}
use Rattle.thread_lists.specs.Lists.{count, total}
use Rattle.thread_lists.proofs.CountLaws.{count-other, total-push}
use Rattle.run_deques.specs.Take.{next}
use Rattle.link_model.specs.World.{World}
use Rattle.schedule_model.specs.Look.{Look, Spot, absent, unstarted, in_no_list, in_wait_list, in_entry_list, done, is_entering, is_in_line, is_in_wait_list, is_live as is_live_spot, is_done as is_done_spot}
use Rattle.schedule_model.specs.Schedule.{Schedule, in_deques, on_carriers, opening_schedule, places, times, with_value}
use Rattle.schedule_model.specs.Puts.{all_threads, beginning_with, by_deadline, is_at_free, is_made_enabled, is_moved_to_free, is_next_in_line, is_started, is_to_run, put_by, updated_list}
use Rattle.schedule_model.specs.Entries.{after_step, after_tick, after_unmount, has_mounted, has_to_leave, is_idle, may_step, may_tick, may_unmount, mount, mounted_from, unmount, where_allowed}
use Rattle.schedule_model.specs.Run.{Scheduled, schedule_from, scheduled_after, with_schedule}
use Rattle.schedule_model.proofs.ListLaws.{count-filter_no}
use Rattle.schedule_model.proofs.PutLaws.{placed}
use Rattle.schedule_model.proofs.EntryLaws.{allowed_is, holds_is, on-set, on_there, taken_in, vacant_is}
use Rattle.schedule_model.proofs.RunLaws.{inner, scheduled, under_is}
use Rattle.ref_model.specs.Setting.{Setting}
use Rattle.ref_model.specs.State.{JavaThread, State}
use Rattle.ref_model.specs.Ending.{ending}
use Rattle.ref_model.specs.Waiting.{at_time}
use Rattle.ref_model.specs.Step.{step}
use Rattle.ref_model.specs.Looks.{look_of, grouped_steps, machine_from, yields_after}
use Rattle.schedule_soundness.specs.Started.{was_started}
use Rattle.schedule_soundness.specs.HistoryLaws.{IsProgramAfter, PlacedWereStarted}
use Rattle.schedule_soundness.proofs.OtherMoves.{time_moves}
use Rattle.schedule_soundness.proofs.Steps.{LiveStep, step_moves}
use Rattle.schedule_soundness.proofs.LookLaws.{ready_at, spot_at, thread_live}
use Rattle.schedule_soundness.proofs.Reached.{entry_holds}
use Rattle.schedule_soundness.proofs.MainAlone.{own_started, started_stays}
use Rattle.schedule_soundness.proofs.Openings.{Opens, opens}
use Rattle.schedule_soundness.proofs.Histories.{histories_go_on, is_after}

-- ---- who isn't live isn't put

no_both : (b : Bool) → b ≡ true → b ≡ false → ⊥
no_both b i j = absurd cc

pub off_all : (a b c d : Bool) → a ≡ false → b ≡ false → c ≡ false → d ≡ false → (a || (b || (c || d))) ≡ false
off_all a b c d e f g h = or_from a (b || (c || d)) e (or_from b (c || d) f (or_from c d g h))

dead_free : (l : Look) (x : Spot) → is_live_spot x ≡ false → is_at_free l x ≡ false
dead_free l absent e = refl
dead_free l unstarted e = refl
dead_free l in_no_list e = refl
dead_free l (in_wait_list o) e = refl
dead_free l (in_entry_list o) e = absurd cc
dead_free l done e = refl

pub dead_next : (before after : Look) (lists : ℕ → List ℕ) (t : ℕ) (x : Spot) → is_live_spot x ≡ false → is_next_in_line before after lists t x ≡ false
dead_next before after lists t absent e = refl
dead_next before after lists t unstarted e = refl
dead_next before after lists t in_no_list e = refl
dead_next before after lists t (in_wait_list o) e = refl
dead_next before after lists t (in_entry_list o) e = absurd cc
dead_next before after lists t done e = refl

-- it isn't enabled either
dead_ready : (q : State) (o : Option JavaThread) → is_live_spot (spot_at o) ≡ false → ready_at q o ≡ false
dead_ready q o e = by (ready_at q o) refl
  where
    by : (b : Bool) → ready_at q o ≡ b → ready_at q o ≡ false
    by true on = absurd (no_both (is_live_spot (spot_at o)) (thread_live q o on) e)
    by false off = off

pub dead_off : (w : World) (r q : State) (lists : ℕ → List ℕ) (u : ℕ) → is_live_spot (spot_at (slice_get q.threads u)) ≡ false
    → is_to_run (look_of w r) (look_of w q) lists u ≡ false
dead_off w r q lists u e =
    let before = look_of w r in
    let after = look_of w q in
    let enabled : after.enabled u ≡ false =
    and_right (is_none (ending q)) (ready_at q (slice_get q.threads u)) (dead_ready q (slice_get q.threads u) e) in
    off_all (is_started (before.spot u) (after.spot u)) (is_made_enabled before after u)
    (is_moved_to_free after (before.spot u) (after.spot u)) (is_next_in_line before after lists u (after.spot u))
    (and_right (not (is_live_spot (before.spot u))) (is_live_spot (after.spot u)) e)
    (and_right (not (before.enabled u)) (after.enabled u && not (is_in_line (after.spot u)))
    (and_left (after.enabled u) (not (is_in_line (after.spot u))) enabled))
    (and_right (is_in_wait_list (before.spot u)) (is_at_free after (after.spot u)) (dead_free after (after.spot u) e))
    (dead_next before after lists u (after.spot u) e)

-- ---- who was started stays so

step_started : (p : Setting) (r q : State) (t u : ℕ) (pick : Option ℕ) → was_started (spot_at (slice_get r.threads u)) ≡ true → step p r t pick ≡ Some q
    → was_started (spot_at (slice_get q.threads u)) ≡ true
step_started p r q t u pick was e = by (eqb_tells u t)
  where
    l : LiveStep p.world t r q
    l = step_moves p r q t pick e

    by : ((eqb u t ≡ true) × (u ≡ t)) ⊎ ((eqb u t ≡ false) × (u ≢ t)) → was_started (spot_at (slice_get q.threads u)) ≡ true
    by (inl me) = ap (λ n. was_started (spot_at (slice_get q.threads n))) me.1 ∙ own_started p.world r q t l
    by (inr other) = started_stays p.world (slice_get r.threads u) (slice_get q.threads u) (l.stepped.moves.others u other.1) was

entry_started : (p : Setting) (r q : State) (t n u : ℕ) (pick : Option ℕ) → was_started (spot_at (slice_get r.threads u)) ≡ true
    → grouped_steps p r t n pick ≡ Some q → was_started (spot_at (slice_get q.threads u)) ≡ true
entry_started p r q t n u pick was e =
    entry_holds p (λ s. was_started (spot_at (slice_get s.threads u)) ≡ true) (λ r q t pick was e. step_started p r q t u pick was e) r q t n pick was e

-- ---- a step or a tick

abbrev Placed : World → Scheduled State → Type 0
Placed w v = (u : ℕ) → 0 < places u v.schedule → was_started (spot_at (slice_get v.state.threads u)) ≡ true

put_live : (w : World) (r q : State) (lists : ℕ → List ℕ) (s : Schedule) (order : List ℕ) (u : ℕ)
    → 0 < count u (put_by (look_of w r) (look_of w q) lists s order) → was_started (spot_at (slice_get q.threads u)) ≡ true
put_live w r q lists s order u there = by (is_live_spot (spot_at (slice_get q.threads u))) refl
  where
    test : ℕ → Bool
    test = λ t. is_to_run (look_of w r) (look_of w q) lists t && (places t s == 0)

    by : (b : Bool) → is_live_spot (spot_at (slice_get q.threads u)) ≡ b → was_started (spot_at (slice_get q.threads u)) ≡ true
    by true live = or_left (is_live_spot (spot_at (slice_get q.threads u))) (is_done_spot (spot_at (slice_get q.threads u))) live
    by false dead =
        let off : test u ≡ false = and_left (is_to_run (look_of w r) (look_of w q) lists u) (places u s == 0) (dead_off w r q lists u dead) in
        absurd (omega (arith, there, count-filter_no u test order off))

-- who is in a place after it was in one before, or was put
changed : (w : World) (r q : State) (lists : ℕ → List ℕ) (s : Schedule) (order : List ℕ) (u after : ℕ)
    → (0 < places u s → was_started (spot_at (slice_get q.threads u)) ≡ true)
    → after ≡ places u s + count u (put_by (look_of w r) (look_of w q) lists s order) → 0 < after
    → was_started (spot_at (slice_get q.threads u)) ≡ true
changed w r q lists s order u after old is there =
    elim (cases_lt 0 (places u s)) [
      | inl h ↦ old h
      | inr z ↦ put_live w r q lists s order u (omega (arith, is, there, z))
    ]

within : (s : Schedule) (c t : ℕ) → has_mounted s c t ≡ true → length s.deques ≡ length s.mounted → c < length s.deques
within s c t mounts sizes = omega (arith, slice_get_within s.mounted c (Some t) (holds_is t (slice_get s.mounted c) mounts), sizes)

-- the lists of those in line after a change
abbrev lines : Look → Look → (ℕ → List ℕ) → Schedule → ℕ → List ℕ
lines before after coming s o = updated_list (is_entering o) before after (coming o) (s.entry_list o)

step_placed : (p : Setting) (v : Scheduled State) (q : State) (c t n : ℕ) (pick : Option ℕ) → length v.schedule.deques ≡ length v.schedule.mounted
    → has_mounted v.schedule c t ≡ true → grouped_steps p v.state t n pick ≡ Some q → Placed p.world v
    → Placed p.world (with_schedule q (after_step (look_of p.world v.state) (look_of p.world q) v.schedule c t (yields_after p v.state t n)))
step_placed p v q c t n pick sizes mounts made old u there =
    let before = look_of p.world v.state in
    let after = look_of p.world q in
    let s = v.schedule in
    let coming : ℕ → List ℕ = λ o. beginning_with (s.wait_list o) after in
    let owes = with_value s.owes t (has_to_leave after t (yields_after p v.state t n)) in
    changed p.world v.state q (lines before after coming s) s (all_threads after) u
    (places u (after_step before after s c t (yields_after p v.state t n)))
    (λ h. entry_started p v.state q t n u pick (old u h) made)
    (placed before after c (all_threads after) coming s owes u (within s c t mounts sizes)) there

tick_placed : (p : Setting) (v : Scheduled State) (q : State) (c now : ℕ) → c < length v.schedule.deques → at_time v.state now ≡ Some q
    → Placed p.world v → Placed p.world (with_schedule q (after_tick (look_of p.world v.state) (look_of p.world q) v.schedule c))
tick_placed p v q c now inside made old u there =
    let before = look_of p.world v.state in
    let after = look_of p.world q in
    let s = v.schedule in
    let coming : ℕ → List ℕ = λ o. by_deadline before after in
    changed p.world v.state q (lines before after coming s) s (by_deadline before after) u (places u (after_tick before after s c))
    (λ h. started_stays p.world (slice_get v.state.threads u) (slice_get q.threads u) (time_moves p.world v.state q u now made) (old u h))
    (placed before after c (by_deadline before after) coming s s.owes u inside) there

-- ---- Mount and Unmount

-- a thread that is mounted was in a deque
pub record Taken (l : Look) (s after : Schedule) (c t : ℕ) : Type 0 where
  pub there : 0 < in_deques t s
  pub same : (u : ℕ) → places u after ≡ places u s
  pub on : 0 < on_carriers t after
  pub owes : after.owes t ≡ false
  pub off : after.was_off t ≡ not (l.enabled t)

taken_by : (l : Look) (s : Schedule) (c : ℕ) (found : ℕ × ℕ) → length s.deques ≡ length s.mounted → is_idle s c ≡ true
    → next s.deques c ≡ Some found → Taken l s (mounted_from l s c found) c found.1
taken_by l s c found sizes idle is_next =
    let vacant = vacant_is (slice_get s.mounted c) idle in
    record {
      there = omega (arith, taken_in l s c found sizes idle is_next found.1, once);
      same = λ u. omega (arith, on-set s c u None (Some found.1) vacant, taken_in l s c found sizes idle is_next u);
      on = omega (arith, on-set s c found.1 None (Some found.1) vacant, once);
      owes = ap (λ b. cond b false (s.owes found.1)) here;
      off = ap (λ b. cond b (not (l.enabled found.1)) (s.was_off found.1)) here;
    }
  where
    here : (found.1 == found.1) ≡ true
    here = eq-eqb found.1 found.1 refl

    once : ◌≡◌ {A = ℕ} (cond (found.1 == found.1) 1 0) 1
    once = ap (λ b. cond b 1 0) here

pub taken : (l : Look) (s after : Schedule) (c t : ℕ) → length s.deques ≡ length s.mounted → mount l s c t ≡ Some after → Taken l s after c t
taken l s after c t sizes e =
    let found = some_is (next s.deques c) (λ found. where_allowed (not l.ended && (is_idle s c && (found.1 == t))) (mounted_from l s c found)) after e in
    let given = allowed_is (not l.ended && (is_idle s c && (found.0.1 == t))) (mounted_from l s c found.0) after found.2 in
    let parts = and_parts (is_idle s c) (found.0.1 == t) (and_parts (not l.ended) _ given.0).1 in
    subst (λ x. Taken l s x c t) given.1
    (subst (Taken l s (mounted_from l s c found.0) c) (eqb-true found.0.1 t parts.1) (taken_by l s c found.0 sizes parts.0 found.1))

-- a thread that is unmounted was mounted
pub record PutDown (s after : Schedule) (t : ℕ) : Type 0 where
  pub on : 0 < on_carriers t s
  pub off : on_carriers t after + 1 ≡ on_carriers t s
  pub few : (u : ℕ) → 0 < places u after → 0 < places u s

put_down_by : (l : Look) (s : Schedule) (c t : ℕ) → length s.deques ≡ length s.mounted → has_mounted s c t ≡ true
    → PutDown s (after_unmount l s c t) t
put_down_by l s c t sizes mounts =
    let here = holds_is t (slice_get s.mounted c) mounts in
    record {
      on = on_there s c t mounts;
      off = omega (arith, on-set s c t (Some t) None here, once);
      few = λ u h.
          elim (eqb_tells t u) [
            | inl w ↦ subst (λ x. 0 < places x s) w.1 (omega (arith, on_there s c t mounts))
            | inr w ↦
                omega (arith, h, on-set s c u (Some t) None here, total-push u s.deques c (comes (l.enabled t)) (within s c t mounts sizes), none u w.1 (l.enabled t))
          ];
    }
  where
    comes : Bool → List ℕ
    comes b = cond b (t ∷ []) []

    none : (u : ℕ) → (t ≡ u → ⊥) → (b : Bool) → count u (comes b) ≡ 0
    none u ne true = count-other u t [] ne
    none u ne false = refl

    once : ◌≡◌ {A = ℕ} (cond (t == t) 1 0) 1
    once = ap (λ b. cond b 1 0) (eq-eqb t t refl)

pub put_down : (l : Look) (s after : Schedule) (c t : ℕ) → length s.deques ≡ length s.mounted → unmount l s c t ≡ Some after → PutDown s after t
put_down l s after c t sizes e =
    let given = allowed_is (may_unmount l s c t) (after_unmount l s c t) after e in
    subst (λ x. PutDown s x t) given.1 (put_down_by l s c t sizes (and_parts (has_mounted s c t) _ given.0).0)

-- ---- histories

pub sizes_of : (p : Setting) (first : State) (v : Scheduled State) → IsProgramAfter p first v → length v.schedule.deques ≡ length v.schedule.mounted
sizes_of p first v a = (scheduled (machine_from p first) v (is_after p first v a)).1.sizes

entry_placed : (p : Setting) (first : State) (v w : Scheduled State) (c : ℕ) (what : What) → IsProgramAfter p first v
    → scheduled_after (machine_from p first) v c what ≡ Some w → Placed p.world v → Placed p.world w
entry_placed p first v w c (Mount t) a e old =
    let s = some_is (mount (look_of p.world v.state) v.schedule c t) (λ s. Some (with_schedule v.state s)) w e in
    let m = taken (look_of p.world v.state) v.schedule s.0 c t (sizes_of p first v a) s.1 in
    subst (Placed p.world) (inner (with_schedule v.state s.0) w s.2) (λ u there. old u (omega (arith, there, m.same u)))
entry_placed p first v w c (Unmount t) a e old =
    let s = some_is (unmount (look_of p.world v.state) v.schedule c t) (λ s. Some (with_schedule v.state s)) w e in
    let m = put_down (look_of p.world v.state) v.schedule s.0 c t (sizes_of p first v a) s.1 in
    subst (Placed p.world) (inner (with_schedule v.state s.0) w s.2) (λ u there. old u (m.few u there))
entry_placed p first v w c (Step t n pick) a e old =
    let l = look_of p.world in
    let given = under_is (may_step (l v.state) v.schedule c t pick) _ w e in
    let q = some_is (grouped_steps p v.state t n pick)
    (λ q. Some (with_schedule q (after_step (l v.state) (l q) v.schedule c t (yields_after p v.state t n)))) w given.1 in
    subst (Placed p.world) (inner (with_schedule q.0 (after_step (l v.state) (l q.0) v.schedule c t (yields_after p v.state t n))) w q.2)
    (step_placed p v q.0 c t n pick (sizes_of p first v a) (and_parts (has_mounted v.schedule c t) _ given.0).0 q.1 old)
entry_placed p first v w c (Clock now) a e old =
    let l = look_of p.world in
    let given = under_is (may_tick (l v.state) v.schedule c) _ w e in
    let q = some_is (at_time v.state now) (λ q. Some (with_schedule q (after_tick (l v.state) (l q) v.schedule c))) w given.1 in
    let low = ltb-true c (length v.schedule.mounted) (and_parts (not (l v.state).ended) _ given.0).1 in
    let sizes = sizes_of p first v a in
    subst (Placed p.world) (inner (with_schedule q.0 (after_tick (l v.state) (l q.0) v.schedule c)) w q.2)
    (tick_placed p v q.0 c now (omega (arith, low, sizes)) q.1 old)

entries_placed : (p : Setting) (first : State) (es : List Entry) (v w : Scheduled State) → IsProgramAfter p first v
    → schedule_from (machine_from p first) v es ≡ Some w → Placed p.world v → Placed p.world w
entries_placed p first [] v w a e old = subst (Placed p.world) (inner v w e) old
entries_placed p first (x ∷ es) v w a e old =
    let u = some_is (scheduled_after (machine_from p first) v x.carrier x.what) (λ u. schedule_from (machine_from p first) u es) w e in
    entries_placed p first es u.0 w (histories_go_on p first v u.0 a x.carrier x.what u.1) u.2
    (entry_placed p first v u.0 x.carrier x.what a u.1 old)

-- at the opening main alone is in a place
pub none_on : (t n : ℕ) → on_carriers t (opening_schedule n) ≡ 0
none_on t zero = refl
none_on t (suc n) = omega (arith, sum_by-cons (times t) None (replicate n None), none_on t n)

none_in : (t n : ℕ) → total (count t) (replicate n []) ≡ 0
none_in t zero = refl
none_in t (suc n) = omega (arith, sum_by-cons (count t) [] (replicate n []), none_in t n)

main_in : (t n : ℕ) → 0 < n → (0 ≡ t → ⊥) → in_deques t (opening_schedule n) ≡ 0
main_in t n some other =
    let empty : List ℕ = [] in
    total-push t (replicate n empty) 0 (0 ∷ []) (omega (arith, length-replicate n empty, some))
    ∙ ap (λ k. k + count t (0 ∷ [])) (none_in t n) ∙ omega (arith, count-other t 0 [] other)

opening_placed : (p : Setting) (first : State) (carriers : ℕ) → 0 < carriers → Opens p first
    → Placed p.world (with_schedule first (opening_schedule carriers))
opening_placed p first carriers some o u there =
    elim (eqb_tells 0 u) [
      | inl w ↦ subst (λ t. was_started (spot_at (slice_get first.threads t)) ≡ true) w.1 (ap (λ ts. was_started (spot_at (slice_get ts 0))) o.threads)
      | inr w ↦ absurd (omega (arith, there, none_on u carriers, main_in u carriers some w.1))
    ]

pub placed_were_started : PlacedWereStarted
placed_were_started p first v a =
    let begins : IsProgramAfter p first (with_schedule first (opening_schedule a.carriers)) =
    record { begins = a.begins; plain = a.plain; carriers = a.carriers; some = a.some; history = []; runs = refl } in
    entries_placed p first a.history (with_schedule first (opening_schedule a.carriers)) v begins a.runs
    (opening_placed p first a.carriers a.some (opens p first a.begins))
