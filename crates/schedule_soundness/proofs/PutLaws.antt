-- Whom a step puts into a deque.
use Rattle.std.proofs.Common.{◌≡◌, ◌≢◌, ◌⊎◌, inl, inr, eqb, ◌==◌, ◌<◌, ℕ, Bool, true, false, List, [], ◌∷◌, length, map, Option, Some, None, refl, ap, sym, ◌∙◌, ◌&&◌, ◌||◌, not, arith}
use Rattle.std.specs.Prelude.{Contains, if◌then◌else◌, is_none, is_some, slice_get}
use Rattle.std.proofs.lemmas.Bool.{and_from, and_left, and_parts, and_right, cases_Bool, eq-eqb, eqb-true, or_from, or_left, or_right}
use Rattle.std.proofs.lemmas.Bool.Decides.{eqb_tells}
use Rattle.std.proofs.lemmas.Option.{slice_get_within}
use mathlib.Core.Bool.{and-true, or-false}
use Rattle.items.specs.Options.{◌>>=◌}
use Rattle.vthread_state.specs.declared.phase.Phase.TheVariants.{Run, Throwing, Entering, Waiting, Reenter, Parked, Asleep, Joining}
use Rattle.vthread_state.specs.declared.thread.Status.{Status}
use Rattle.vthread_state.specs.declared.thread.Status.TheVariants.{New, Live, Done}
use Rattle.vthread_state.specs.Threads.{joins_in, target_of_status}
use Rattle.link_model.specs.World.{World}
use Rattle.schedule_model.specs.Look.{Look, Spot, absent, unstarted, in_no_list, in_wait_list, in_entry_list, done, is_in_line, is_live as is_live_spot}
use Rattle.schedule_model.specs.Schedule.{Schedule, places}
use Rattle.schedule_model.specs.Puts.{all_threads, is_first, is_made_enabled, is_moved_to_free, is_next_in_line, is_started, is_to_run}
use Rattle.schedule_model.specs.Entries.{has_mounted}
use Rattle.schedule_model.specs.Run.{Scheduled}
use Rattle.schedule_model.proofs.EntryLaws.{on_there}
use Rattle.schedule_model.proofs.ListLaws.{all_in_order}
use Rattle.schedule_model.proofs.WordLaws.{nobody_is_put, one_is_put}
use Rattle.ref_model.specs.Setting.{Setting}
use Rattle.ref_model.specs.State.{JavaThread, State}
use Rattle.ref_model.specs.Ending.{ending, is_live}
use Rattle.ref_model.specs.Waiting.{is_reached}
use Rattle.ref_model.specs.Enabled.{enabled, is_done, has_ended, is_ready}
use Rattle.ref_model.specs.Looks.{spot_of, look_of}
use Rattle.schedule_soundness.specs.Started.{was_started}
use Rattle.schedule_soundness.specs.HistoryLaws.{IsProgramAfter}
use Rattle.schedule_soundness.specs.PutLaws.{Stays, no_thread, is_new, is_kept, OthersStayBeside, EndsNoWait, QuietStepsPutNobody, EndsPutJoiners, StartsPutTheStarted, WakesPutTheWoken}
use Rattle.schedule_soundness.proofs.ThreadLists.{map_none, map_there}
use Rattle.schedule_soundness.proofs.OtherMoves.{phase_live}
use Rattle.schedule_soundness.proofs.LookLaws.{ready_at, spot_at}
use Rattle.schedule_soundness.proofs.Changes.{ended_by}
use Rattle.schedule_soundness.proofs.Filters.{filter_below}
use Rattle.schedule_soundness.proofs.Histories.{no_wake_up_is_lost}
use Rattle.schedule_soundness.proofs.Placed.{dead_off, placed_were_started}

no_both : (b : Bool) → b ≡ true → b ≡ false → ⊥
no_both b i j = absurd cc

-- ---- the thread whose end a thread waits for

abbrev pub joined : Option JavaThread → Option ℕ
joined o = o >>= λ x. target_of_status x.thread.status

pub joined_in : (xs : List JavaThread) (u : ℕ) → joins_in (map (λ (x : JavaThread). x.thread) xs) u ≡ joined (slice_get xs u)
joined_in xs u = by (slice_get xs u) refl
  where
    by : (o : Option JavaThread) → slice_get xs u ≡ o → joins_in (map (λ (x : JavaThread). x.thread) xs) u ≡ joined (slice_get xs u)
    by None e =
        ap (λ o. o >>= λ thread. target_of_status thread.status) (map_none (λ (x : JavaThread). x.thread) xs u e) ∙ sym (ap joined e)
    by (Some x) e =
        ap (λ o. o >>= λ thread. target_of_status thread.status) (map_there (λ (x : JavaThread). x.thread) xs u x e) ∙ sym (ap joined e)

pub joining : (t : ℕ) (status : Status) → target_of_status status ≡ Some t → (deadline : Option ℕ) × (status ≡ Live (Joining t deadline))
joining t New e = absurd cc
joining t Done e = absurd cc
joining t (Live (Joining u deadline)) e = let same : u ≡ t = cc in (deadline, ap (λ n. Live (Joining n deadline)) same)
joining t (Live phase) e = absurd cc

-- ---- a thread that stays

pub no_start : (x : Spot) → is_started x x ≡ false
no_start absent = refl
no_start unstarted = refl
no_start in_no_list = refl
no_start (in_wait_list o) = refl
no_start (in_entry_list o) = refl
no_start done = refl

pub no_move : (l : Look) (x : Spot) → is_moved_to_free l x x ≡ false
no_move l absent = refl
no_move l unstarted = refl
no_move l in_no_list = refl
no_move l (in_wait_list o) = refl
no_move l (in_entry_list o) = refl
no_move l done = refl

no_next : (before after : Look) (lists : ℕ → List ℕ) (t : ℕ) (x : Spot) → ((o : ℕ) → after.owned o ≡ before.owned o)
    → is_next_in_line before after lists t x ≡ false
no_next before after lists t absent same = refl
no_next before after lists t unstarted same = refl
no_next before after lists t in_no_list same = refl
no_next before after lists t (in_wait_list o) same = refl
no_next before after lists t (in_entry_list o) same =
    ap (λ b. before.owned o && (not b && is_first (lists o) t)) (same o) ∙ by (before.owned o) (is_first (lists o) t)
  where
    by : (a b : Bool) → (a && (not a && b)) ≡ false
    by true b = refl
    by false b = refl
no_next before after lists t done same = refl

-- what a thread needs to go on it had before
pub or_back : (a b c d : Bool) → (a ≡ true → c ≡ true) → (b ≡ true → d ≡ true) → (a || b) ≡ true → (c || d) ≡ true
or_back true b c d f g e = or_left c d (f refl)
or_back false b c d f g e = or_right c d (g e)

ready_back : (r q : State) (x y : JavaThread) (status : Status) → q.owners ≡ r.owners → q.now ≡ r.now → y.permit ≡ x.permit
    → y.interrupted ≡ x.interrupted → ((v : ℕ) → target_of_status status ≡ Some v → has_ended q v ≡ true → has_ended r v ≡ true)
    → is_ready q y status ≡ true → is_ready r x status ≡ true
ready_back r q x y New owners now permit told ends e = absurd cc
ready_back r q x y Done owners now permit told ends e = absurd cc
ready_back r q x y (Live Run) owners now permit told ends e = refl
ready_back r q x y (Live (Throwing o)) owners now permit told ends e = refl
ready_back r q x y (Live (Entering o)) owners now permit told ends e = sym (ap (λ f. is_none (f o)) owners) ∙ e
ready_back r q x y (Live (Waiting o count deadline)) owners now permit told ends e = absurd cc
ready_back r q x y (Live (Reenter o count wake)) owners now permit told ends e = sym (ap (λ f. is_none (f o)) owners) ∙ e
ready_back r q x y (Live (Parked deadline)) owners now permit told ends e =
    or_back y.permit (y.interrupted || is_reached q.now deadline) x.permit (x.interrupted || is_reached r.now deadline) (λ i. sym permit ∙ i)
    (or_back y.interrupted (is_reached q.now deadline) x.interrupted (is_reached r.now deadline) (λ i. sym told ∙ i)
    (λ i. sym (ap (λ n. is_reached n deadline) now) ∙ i)) e
ready_back r q x y (Live (Asleep deadline)) owners now permit told ends e =
    or_back y.interrupted (is_reached q.now (Some deadline)) x.interrupted (is_reached r.now (Some deadline)) (λ i. sym told ∙ i)
    (λ i. sym (ap (λ n. is_reached n (Some deadline)) now) ∙ i) e
ready_back r q x y (Live (Joining u deadline)) owners now permit told ends e =
    or_back (has_ended q u) (y.interrupted || is_reached q.now deadline) (has_ended r u) (x.interrupted || is_reached r.now deadline) (ends u refl)
    (or_back y.interrupted (is_reached q.now deadline) x.interrupted (is_reached r.now deadline) (λ i. sym told ∙ i)
    (λ i. sym (ap (λ n. is_reached n deadline) now) ∙ i)) e

not_made : (a b c : Bool) → (b ≡ true → a ≡ true) → (not a && (b && c)) ≡ false
not_made true b c back = refl
not_made false true c back = let z : false ≡ true = back refl in absurd cc
not_made false false c back = refl

-- what is the same in both states, and whose ends are no news to a thread
record Quiet (r q : State) (u : ℕ) : Type 0 where
  pub goes : ending r ≡ None
  pub owners : q.owners ≡ r.owners
  pub now : q.now ≡ r.now
  pub ends : (v : ℕ) → joined (slice_get r.threads u) ≡ Some v → is_none (ending q) ≡ true → has_ended q v ≡ true → has_ended r v ≡ true

only_made : (a b c d : Bool) → a ≡ false → c ≡ false → d ≡ false → (a || (b || (c || d))) ≡ b
only_made a b c d e g h = ap (λ x. x || (b || (c || d))) e ∙ ap (λ x. b || x) (or_from c d g h) ∙ or-false b

-- A thread whose status stays is put, while the owners of monitors stay, exactly where it is made enabled.
pub kept_runs : (w : World) (r q : State) (lists : ℕ → List ℕ) (u : ℕ) (x y : JavaThread) → q.owners ≡ r.owners
    → slice_get r.threads u ≡ Some x → slice_get q.threads u ≡ Some y → y.thread.status ≡ x.thread.status
    → is_to_run (look_of w r) (look_of w q) lists u ≡ is_made_enabled (look_of w r) (look_of w q) u
kept_runs w r q lists u x y owners was now status =
    let before = look_of w r in
    let after = look_of w q in
    let spot = spot_of x.thread.status in
    let spot_was : before.spot u ≡ spot = ap spot_at was in
    let spot_is : after.spot u ≡ spot = ap spot_at now ∙ ap spot_of status in
    only_made (is_started (before.spot u) (after.spot u)) (is_made_enabled before after u)
    (is_moved_to_free after (before.spot u) (after.spot u)) (is_next_in_line before after lists u (after.spot u))
    (ap (λ z. is_started z (after.spot u)) spot_was ∙ ap (is_started spot) spot_is ∙ no_start spot)
    (ap (λ z. is_moved_to_free after z (after.spot u)) spot_was ∙ ap (is_moved_to_free after spot) spot_is ∙ no_move after spot)
    (no_next before after lists u (after.spot u) (λ o. ap (λ f. is_some (f o)) owners))

kept_off : (w : World) (r q : State) (lists : ℕ → List ℕ) (u : ℕ) (x y : JavaThread) → Quiet r q u → slice_get r.threads u ≡ Some x
    → slice_get q.threads u ≡ Some y → y.thread.status ≡ x.thread.status → y.permit ≡ x.permit → y.interrupted ≡ x.interrupted
    → is_to_run (look_of w r) (look_of w q) lists u ≡ false
kept_off w r q lists u x y h was now status permit told =
    let before = look_of w r in
    let after = look_of w q in
    kept_runs w r q lists u x y h.owners was now status
    ∙ not_made (before.enabled u) (after.enabled u) (not (is_in_line (after.spot u))) back
  where
    back : (look_of w q).enabled u ≡ true → (look_of w r).enabled u ≡ true
    back on =
        let parts = and_parts (is_none (ending q)) (ready_at q (slice_get q.threads u)) on in
        let ready : is_ready q y x.thread.status ≡ true = ap (is_ready q y) (sym status) ∙ sym (ap (ready_at q) now) ∙ parts.1 in
        let joins : (v : ℕ) → target_of_status x.thread.status ≡ Some v → has_ended q v ≡ true → has_ended r v ≡ true =
        λ v j e. h.ends v (ap joined was ∙ j) parts.0 e in
        and_from (is_none (ending r)) (ready_at r (slice_get r.threads u)) (ap is_none h.goes)
        (ap (ready_at r) was ∙ ready_back r q x y x.thread.status h.owners h.now permit told joins ready)

-- who stays isn't put, unless it joins a thread that has ended just now
stays_off : (w : World) (r q : State) (lists : ℕ → List ℕ) (u : ℕ) → Quiet r q u → Stays (slice_get r.threads u) (slice_get q.threads u)
    → is_to_run (look_of w r) (look_of w q) lists u ≡ false
stays_off w r q lists u h (no_thread was now) = dead_off w r q lists u (ap (λ o. is_live_spot (spot_at o)) now)
stays_off w r q lists u h (is_new y was now status) =
    dead_off w r q lists u (ap (λ o. is_live_spot (spot_at o)) now ∙ ap (λ s. is_live_spot (spot_of s)) status)
stays_off w r q lists u h (is_kept x y was now status permit told) = kept_off w r q lists u x y h was now status permit told

-- ---- who ends

pub ended_back : (before after : Option JavaThread) → Stays before after → ended_by after ≡ true → ended_by before ≡ true
ended_back before after (no_thread was now) e = let z : false ≡ true = sym (ap ended_by now) ∙ e in absurd cc
ended_back before after (is_new y was now status) e =
    let z : false ≡ true = sym (ap ended_by now ∙ ap is_done status) ∙ e in absurd cc
ended_back before after (is_kept x y was now status permit told) e =
    ap ended_by was ∙ sym (ap is_done status) ∙ sym (ap ended_by now) ∙ e

pub no_end : (q : State) (t : ℕ) → EndsNoWait q t → is_none (ending q) ≡ true → has_ended q t ≡ true → ⊥
no_end q t (inl goes) none e = no_both (has_ended q t) e goes
no_end q t (inr over) none e = let z : false ≡ true = sym (ap is_none over.1) ∙ none in absurd cc

-- ---- places

pub mounted_off : (s : Schedule) (c t : ℕ) (b : Bool) → has_mounted s c t ≡ true → (b && (places t s == 0)) ≡ false
mounted_off s c t b mounts = and_right b (places t s == 0) (by (eqb_tells (places t s) 0))
  where
    by : ((eqb (places t s) 0 ≡ true) × (places t s ≡ 0)) ⊎ ((eqb (places t s) 0 ≡ false) × (places t s ≢ 0)) → (places t s == 0) ≡ false
    by (inl none) = absurd (omega (arith, none.1, on_there s c t mounts))
    by (inr some) = some.0

pub unplaced_off : (s : Schedule) (u : ℕ) (b : Bool) → b ≡ false → (b && (places u s == 0)) ≡ false
unplaced_off s u b off = and_left b (places u s == 0) off

-- who is in no place, and in no line, may not step: no wake-up is lost
pub unplaced_waits : (p : Setting) (first : State) (v : Scheduled State) (u : ℕ) → IsProgramAfter p first v → ending v.state ≡ None
    → places u v.schedule ≡ 0 → is_in_line ((look_of p.world v.state).spot u) ≡ false → enabled v.state u ≡ false
unplaced_waits p first v u a goes none free = by (enabled v.state u) refl
  where
    by : (b : Bool) → enabled v.state u ≡ b → enabled v.state u ≡ false
    by false off = off
    by true on = absurd (omega (arith, none, (no_wake_up_is_lost p first v a (ap is_some goes)).ready u on free))

-- ---- nobody

pub quiet_steps_put_nobody : QuietStepsPutNobody
quiet_steps_put_nobody p v q c t lists mounts goes others ends =
    nobody_is_put (look_of p.world v.state) (look_of p.world q) lists v.schedule (all_threads (look_of p.world q)) (λ u. by u (eqb_tells u t))
  where
    runs : ℕ → Bool
    runs = is_to_run (look_of p.world v.state) (look_of p.world q) lists

    over : (x : ℕ) → is_none (ending q) ≡ true → has_ended q x ≡ true → ((eqb x t ≡ true) × (x ≡ t)) ⊎ ((eqb x t ≡ false) × (x ≢ t)) → has_ended v.state x ≡ true
    over x none e (inl me) = absurd (no_end q t ends none (ap (has_ended q) (sym me.1) ∙ e))
    over x none e (inr other) = ended_back (slice_get v.state.threads x) (slice_get q.threads x) (others.threads x other.1) e

    by : (u : ℕ) → ((eqb u t ≡ true) × (u ≡ t)) ⊎ ((eqb u t ≡ false) × (u ≢ t)) → (runs u && (places u v.schedule == 0)) ≡ false
    by u (inl me) = ap (λ n. runs u && (places n v.schedule == 0)) me.1 ∙ mounted_off v.schedule c t (runs u) mounts
    by u (inr other) =
        let quiet : Quiet v.state q u =
        record { goes = goes; owners = others.owners; now = others.now; ends = λ x j none e. over x none e (eqb_tells x t) } in
        unplaced_off v.schedule u (runs u) (stays_off p.world v.state q lists u quiet (others.threads u other.1))

-- ---- the end of a thread

pub ends_put_joiners : EndsPutJoiners
ends_put_joiners p first v q c t lists joiners a mounts goes on others ended rising just =
    filter_below (λ u. runs u && (places u v.schedule == 0)) (length q.threads) joiners rising
    (λ u there. let h = (just u).0 there in these u h.1 (sym (joined_in v.state.threads u) ∙ h.0) (others.threads u (another u h.1)))
    (λ u low e. all u e)
  where
    w : World
    w = p.world

    runs : ℕ → Bool
    runs = is_to_run (look_of w v.state) (look_of w q) lists

    another : (u : ℕ) → places u v.schedule ≡ 0 → u ≢ t
    another u none same = absurd (omega (arith, ap (λ n. places n v.schedule) (sym same) ∙ none, on_there v.schedule c t mounts))

    -- who waits for the end, and is in no place, wasn't enabled
    was_off : (u : ℕ) (x : JavaThread) (deadline : Option ℕ) → places u v.schedule ≡ 0 → slice_get v.state.threads u ≡ Some x
        → x.thread.status ≡ Live (Joining t deadline) → enabled v.state u ≡ false
    was_off u x deadline none was joins =
        unplaced_waits p first v u a goes none (ap (λ o. is_in_line (spot_at o)) was ∙ ap (λ s. is_in_line (spot_of s)) joins)

    -- it is made enabled
    put : (u : ℕ) (x y : JavaThread) (deadline : Option ℕ) → places u v.schedule ≡ 0 → slice_get v.state.threads u ≡ Some x
        → slice_get q.threads u ≡ Some y → x.thread.status ≡ Live (Joining t deadline) → y.thread.status ≡ Live (Joining t deadline) → runs u ≡ true
    put u x y deadline none was now joins still =
        let before = look_of w v.state in
        let after = look_of w q in
        let ready : after.enabled u ≡ true =
        and_from (is_none (ending q)) (ready_at q (slice_get q.threads u)) (ap is_none on)
        (ap (ready_at q) now ∙ ap (is_ready q y) still ∙ or_left (has_ended q t) (y.interrupted || is_reached q.now deadline) ended) in
        let loose : is_in_line (after.spot u) ≡ false = ap (λ o. is_in_line (spot_at o)) now ∙ ap (λ s. is_in_line (spot_of s)) still in
        or_right (is_started (before.spot u) (after.spot u)) _
        (or_left (is_made_enabled before after u) _
        (and_from (not (before.enabled u)) (after.enabled u && not (is_in_line (after.spot u)))
        (ap not (was_off u x deadline none was joins))
        (and_from (after.enabled u) (not (is_in_line (after.spot u))) ready (ap not loose))))

    these : (u : ℕ) → places u v.schedule ≡ 0 → joined (slice_get v.state.threads u) ≡ Some t
        → Stays (slice_get v.state.threads u) (slice_get q.threads u) → (u < length q.threads) × ((runs u && (places u v.schedule == 0)) ≡ true)
    these u none joins (no_thread was now) = let z : None ≡ Some t = sym (ap joined was) ∙ joins in absurd cc
    these u none joins (is_new y was now status) = let z : None ≡ Some t = sym (ap joined was) ∙ joins in absurd cc
    these u none joins (is_kept x y was now status permit told) =
        let j = joining t x.thread.status (sym (ap joined was) ∙ joins) in (
          slice_get_within q.threads u y now,
          and_from (runs u) (places u v.schedule == 0) (put u x y j.0 none was now j.1 (status ∙ j.1)) (eq-eqb (places u v.schedule) 0 none),
        )

    -- who waits for the end of another thread isn't put
    others_off : (u k : ℕ) → u ≢ t → k ≢ t → joined (slice_get v.state.threads u) ≡ Some k → runs u ≡ false
    others_off u k ne other joins =
        let quiet : Quiet v.state q u = record {
          goes = goes;
          owners = others.owners;
          now = others.now;
          ends = λ x j none e.
              let same : x ≡ k = one_number (joined (slice_get v.state.threads u)) x k j joins in
              ended_back (slice_get v.state.threads x) (slice_get q.threads x) (others.threads x (λ i. other (sym same ∙ i))) e;
        } in
        stays_off w v.state q lists u quiet (others.threads u ne)
      where
        one_number : (o : Option ℕ) (x y : ℕ) → o ≡ Some x → o ≡ Some y → x ≡ y
        one_number o x y e f = cc

    -- nor who waits for none
    free_off : (u : ℕ) → u ≢ t → joined (slice_get v.state.threads u) ≡ None → runs u ≡ false
    free_off u ne joins =
        let quiet : Quiet v.state q u = record {
          goes = goes;
          owners = others.owners;
          now = others.now;
          ends = λ x j none e. let z : None ≡ Some x = sym joins ∙ j in absurd cc;
        } in
        stays_off w v.state q lists u quiet (others.threads u ne)

    by : (u : ℕ) → places u v.schedule ≡ 0 → runs u ≡ true → (o : Option ℕ) → joined (slice_get v.state.threads u) ≡ o → Contains joiners u
    by u none run None joins = absurd (no_both (runs u) run (free_off u (another u none) joins))
    by u none run (Some k) joins =
        elim (eqb_tells k t) [
          | inl me ↦ (just u).1 (joined_in v.state.threads u ∙ joins ∙ ap (λ n. Some n) me.1, none)
          | inr other ↦ absurd (no_both (runs u) run (others_off u k (another u none) other.1 joins))
        ]

    all : (u : ℕ) → (runs u && (places u v.schedule == 0)) ≡ true → Contains joiners u
    all u e =
        let parts = and_parts (runs u) (places u v.schedule == 0) e in
        by u (eqb-true (places u v.schedule) 0 parts.1) parts.0 (joined (slice_get v.state.threads u)) refl

-- ---- a step that changes two threads

-- nobody but the second is put, where that one hasn't ended just now
beside_off : (w : World) (v : Scheduled State) (q : State) (c t u : ℕ) (lists : ℕ → List ℕ) → has_mounted v.schedule c t ≡ true
    → ending v.state ≡ None → OthersStayBeside t u v.state q → EndsNoWait q t → (has_ended q u ≡ true → has_ended v.state u ≡ true)
    → (x : ℕ) → x ≢ u → (is_to_run (look_of w v.state) (look_of w q) lists x && (places x v.schedule == 0)) ≡ false
beside_off w v q c t u lists mounts goes others ends old x other = by (eqb_tells x t)
  where
    runs : Bool
    runs = is_to_run (look_of w v.state) (look_of w q) lists x

    over : (y : ℕ) → is_none (ending q) ≡ true → has_ended q y ≡ true → ((eqb y t ≡ true) × (y ≡ t)) ⊎ ((eqb y t ≡ false) × (y ≢ t))
        → ((eqb y u ≡ true) × (y ≡ u)) ⊎ ((eqb y u ≡ false) × (y ≢ u)) → has_ended v.state y ≡ true
    over y none e (inl me) beside = absurd (no_end q t ends none (ap (has_ended q) (sym me.1) ∙ e))
    over y none e (inr apart) (inl it) = ap (has_ended v.state) it.1 ∙ old (ap (has_ended q) (sym it.1) ∙ e)
    over y none e (inr apart) (inr beside) =
        ended_back (slice_get v.state.threads y) (slice_get q.threads y) (others.threads y apart.1 beside.1) e

    by : ((eqb x t ≡ true) × (x ≡ t)) ⊎ ((eqb x t ≡ false) × (x ≢ t)) → (runs && (places x v.schedule == 0)) ≡ false
    by (inl me) = ap (λ n. runs && (places n v.schedule == 0)) me.1 ∙ mounted_off v.schedule c t runs mounts
    by (inr apart) =
        let quiet : Quiet v.state q x = record {
          goes = goes;
          owners = others.owners;
          now = others.now;
          ends = λ y j none e. over y none e (eqb_tells y t) (eqb_tells y u);
        } in
        unplaced_off v.schedule x runs (stays_off w v.state q lists x quiet (others.threads x apart.1 other))

-- ---- the start of a thread

live_spot : (status : Status) → is_live status ≡ true → is_live_spot (spot_of status) ≡ true
live_spot New e = absurd cc
live_spot (Live phase) e = phase_live phase
live_spot Done e = absurd cc

live_goes : (status : Status) → is_live status ≡ true → is_done status ≡ true → ⊥
live_goes New e d = absurd cc
live_goes (Live phase) e d = absurd cc
live_goes Done e d = absurd cc

pub starts_put_the_started : StartsPutTheStarted
starts_put_the_started p first v q c t u lists a mounts goes others ends fresh live =
    one_is_put (look_of w v.state) (look_of w q) lists v.schedule (all_threads (look_of w q)) u (λ x. by x (eqb_tells x u))
    ((all_in_order (look_of w q)).once u (slice_get_within q.threads u live.thread live.there))
  where
    w : World
    w = p.world

    runs : ℕ → Bool
    runs = is_to_run (look_of w v.state) (look_of w q) lists

    spot_was : (look_of w v.state).spot u ≡ unstarted
    spot_was = ap spot_at fresh.there ∙ ap spot_of fresh.status

    unplaced : (b : Bool) → (places u v.schedule == 0) ≡ b → (places u v.schedule == 0) ≡ true
    unplaced true e = e
    unplaced false e =
        elim (eqb_tells (places u v.schedule) 0) [
          | inl none ↦ none.0
          | inr some ↦
              let was = placed_were_started p first v a u (omega (arith, some.1)) in
              let z : false ≡ true = sym (ap was_started spot_was) ∙ was in absurd cc
        ]

    starts : runs u ≡ true
    starts =
        or_left (is_started ((look_of w v.state).spot u) ((look_of w q).spot u)) _
        (and_from (not (is_live_spot ((look_of w v.state).spot u))) (is_live_spot ((look_of w q).spot u))
        (ap (λ s. not (is_live_spot s)) spot_was)
        (ap (λ o. is_live_spot (spot_at o)) live.there ∙ live_spot live.thread.thread.status live.status))

    old : has_ended q u ≡ true → has_ended v.state u ≡ true
    old e = absurd (live_goes live.thread.thread.status live.status (sym (ap ended_by live.there) ∙ e))

    by : (x : ℕ) → ((eqb x u ≡ true) × (x ≡ u)) ⊎ ((eqb x u ≡ false) × (x ≢ u)) → (runs x && (places x v.schedule == 0)) ≡ (x == u)
    by x (inl me) =
        ap (λ n. runs n && (places n v.schedule == 0)) me.1
        ∙ and_from (runs u) (places u v.schedule == 0) starts (unplaced (places u v.schedule == 0) refl) ∙ sym me.0
    by x (inr other) = beside_off w v q c t u lists mounts goes others ends old x other.1 ∙ sym other.0

-- ---- a permit, or an interrupt

pub wakes_put_the_woken : WakesPutTheWoken
wakes_put_the_woken p first v q c t u lists a mounts goes others ends woken free =
    elim (cases_Bool alone) [
      | inl puts ↦
          one_is_put before after lists v.schedule (all_threads after) u (λ x. one puts x (eqb_tells x u))
          ((all_in_order after).once u (slice_get_within q.threads u woken.new woken.is)) ∙ sym (ap (λ b. if b then u ∷ [] else []) puts)
      | inr stays ↦
          nobody_is_put before after lists v.schedule (all_threads after) (λ x. none stays x (eqb_tells x u))
          ∙ sym (ap (λ b. if b then u ∷ [] else []) stays)
    ]
  where
    before : Look
    before = look_of p.world v.state

    after : Look
    after = look_of p.world q

    runs : ℕ → Bool
    runs = is_to_run before after lists

    alone : Bool
    alone = (places u v.schedule == 0) && enabled q u

    loose : is_in_line (after.spot u) ≡ false
    loose =
        ap (λ o. is_in_line (spot_at o)) woken.is ∙ ap (λ s. is_in_line (spot_of s)) woken.status
        ∙ sym (ap (λ o. is_in_line (spot_at o)) woken.was) ∙ free

    -- it wasn't enabled, so it is put where it is now
    runs_now : places u v.schedule ≡ 0 → runs u ≡ enabled q u
    runs_now unplaced =
        kept_runs p.world v.state q lists u woken.old woken.new others.owners woken.was woken.is woken.status
        ∙ ap (λ b. not b && (enabled q u && not (is_in_line (after.spot u)))) (unplaced_waits p first v u a goes unplaced free)
        ∙ ap (λ b. enabled q u && not b) loose ∙ and-true (enabled q u)

    here : ((eqb (places u v.schedule) 0 ≡ true) × (places u v.schedule ≡ 0))
        ⊎ ((eqb (places u v.schedule) 0 ≡ false) × (places u v.schedule ≢ 0)) → (runs u && (places u v.schedule == 0)) ≡ alone
    here (inl unplaced) =
        ap (λ b. runs u && b) unplaced.0 ∙ and-true (runs u) ∙ runs_now unplaced.1 ∙ sym (ap (λ b. b && enabled q u) unplaced.0)
    here (inr placed) =
        ap (λ b. runs u && b) placed.0 ∙ and_right (runs u) false refl ∙ sym (ap (λ b. b && enabled q u) placed.0)

    at : (x : ℕ) → x ≡ u → (runs x && (places x v.schedule == 0)) ≡ alone
    at x me = ap (λ n. runs n && (places n v.schedule == 0)) me ∙ here (eqb_tells (places u v.schedule) 0)

    old : has_ended q u ≡ true → has_ended v.state u ≡ true
    old e = ap ended_by woken.was ∙ sym (ap is_done woken.status) ∙ sym (ap ended_by woken.is) ∙ e

    one : alone ≡ true → (x : ℕ) → ((eqb x u ≡ true) × (x ≡ u)) ⊎ ((eqb x u ≡ false) × (x ≢ u))
        → (runs x && (places x v.schedule == 0)) ≡ (x == u)
    one puts x (inl me) = at x me.1 ∙ puts ∙ sym me.0
    one puts x (inr other) = beside_off p.world v q c t u lists mounts goes others ends old x other.1 ∙ sym other.0

    none : alone ≡ false → (x : ℕ) → ((eqb x u ≡ true) × (x ≡ u)) ⊎ ((eqb x u ≡ false) × (x ≢ u))
        → (runs x && (places x v.schedule == 0)) ≡ false
    none stays x (inl me) = at x me.1 ∙ stays
    none stays x (inr other) = beside_off p.world v q c t u lists mounts goes others ends old x other.1
