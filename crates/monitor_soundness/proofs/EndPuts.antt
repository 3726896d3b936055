-- Whom the end of a thread puts, with which it may leave a monitor.
use Rattle.std.proofs.Common.{◌≡◌, ◌≢◌, ◌⊎◌, inl, inr, ◌==◌, ◌<◌, ℕ, zero, Bool, true, false, List, [], ◌∷◌, length, Option, Some, None, refl, ap, sym, subst, ◌∙◌, ◌&&◌, ◌||◌, not, arith}
use Rattle.std.specs.Prelude.{Contains, is_none, slice_get}
use Rattle.std.specs.List.Sorted.{IsStrictlyIncreasing}
use Rattle.std.proofs.lemmas.Bool.{and_from, and_parts, cases_Bool, eq-eqb, eqb-true, or_left, or_right}
use Rattle.std.proofs.lemmas.Bool.Decides.{eqb_tells}
use Rattle.std.proofs.lemmas.Option.{slice_get_within}
use Rattle.vthread_state.specs.declared.phase.Phase.TheVariants.{Joining}
use Rattle.vthread_state.specs.declared.thread.Status.TheVariants.{Live}
use Rattle.vthread_state.specs.Threads.{joins_in}
use Rattle.schedule_model.specs.Look.{Look, in_entry_list, is_in_line}
use Rattle.schedule_model.specs.Schedule.{places}
use Rattle.schedule_model.specs.Puts.{all_threads, is_first, is_made_enabled, is_moved_to_free, is_next_in_line, is_started, is_to_run, put_by}
use Rattle.schedule_model.specs.Entries.{has_mounted}
use Rattle.schedule_model.specs.Run.{Scheduled}
use Rattle.ref_model.specs.Setting.{Setting}
use Rattle.ref_model.specs.State.{JavaThread, State}
use Rattle.ref_model.specs.Ending.{ending}
use Rattle.ref_model.specs.Waiting.{is_reached}
use Rattle.ref_model.specs.Enabled.{has_ended, is_ready}
use Rattle.ref_model.specs.Looks.{look_of, spot_of}
use Rattle.schedule_soundness.specs.HistoryLaws.{IsProgramAfter}
use Rattle.schedule_soundness.specs.PutLaws.{Stays, no_thread, is_new, is_kept, rows_of}
use Rattle.schedule_soundness.proofs.LookLaws.{ready_at, spot_at}
use Rattle.schedule_soundness.proofs.Filters.{filter_below}
use Rattle.schedule_soundness.proofs.PutLaws.{ended_back, joined, joined_in, joining, unplaced_waits}
use Rattle.monitor_soundness.specs.MonitorPuts.{MonitorStep, EndsPutJoinersAlone, EndsPutJoinersAndTheFirst}
use Rattle.monitor_soundness.proofs.Stays.{Quiet, is_next, no_both, no_next, stays_runs, unplaced_other}
use Rattle.monitor_soundness.proofs.MonitorPuts.{made_there, next_here, next_other, owner_kept}

-- ---- the thread whose end a thread waits for

-- ---- whom an end puts, where a test tells who is the next in line

module _ (p : Setting) (first : State) (v : Scheduled State) (q : State) (c t o : ℕ) (lists : ℕ → List ℕ) (a : IsProgramAfter p first v)
    (mounts : has_mounted v.schedule c t ≡ true) (goes : ending v.state ≡ None) (on : ending q ≡ None) (step : MonitorStep t o v.state q)
    (ended : has_ended q t ≡ true) (test : ℕ → Bool) (next_is : (u : ℕ) → is_next p.world v.state q lists u ≡ test u)
    (next_made : (u : ℕ) → test u ≡ true → u < length q.threads) where
  abbrev before : Look
  before = look_of p.world v.state

  abbrev after : Look
  after = look_of p.world q

  abbrev runs : ℕ → Bool
  runs = is_to_run (look_of p.world v.state) (look_of p.world q) lists

  abbrev IsPut : ℕ → Type 0
  IsPut u = (u < length q.threads) × ((runs u && (places u v.schedule == 0)) ≡ true)

  abbrev Waits : ℕ → Type 0
  Waits u = ((joins_in (rows_of v.state) u ≡ Some t) ⊎ (test u ≡ true)) × (places u v.schedule ≡ 0)

  another : (u : ℕ) → places u v.schedule ≡ 0 → u ≢ t
  another u none = unplaced_other v.schedule c t u mounts none

  -- who waits for the end, and is in no place, wasn't enabled, and is made enabled
  joiner_runs : (u : ℕ) (x y : JavaThread) (deadline : Option ℕ) → places u v.schedule ≡ 0 → slice_get v.state.threads u ≡ Some x
      → slice_get q.threads u ≡ Some y → x.thread.status ≡ Live (Joining t deadline) → y.thread.status ≡ Live (Joining t deadline)
      → runs u ≡ true
  joiner_runs u x y deadline none was now joins still =
      let off : before.enabled u ≡ false =
      unplaced_waits p first v u a goes none (ap (λ m. is_in_line (spot_at m)) was ∙ ap (λ s. is_in_line (spot_of s)) joins) in
      let ready : after.enabled u ≡ true =
      and_from (is_none (ending q)) (ready_at q (slice_get q.threads u)) (ap is_none on)
      (ap (ready_at q) now ∙ ap (is_ready q y) still ∙ or_left (has_ended q t) (y.interrupted || is_reached q.now deadline) ended) in
      let loose : is_in_line (after.spot u) ≡ false = ap (λ m. is_in_line (spot_at m)) now ∙ ap (λ s. is_in_line (spot_of s)) still in
      or_right (is_started (before.spot u) (after.spot u)) _
      (or_left (is_made_enabled before after u) _
      (and_from (not (before.enabled u)) (after.enabled u && not (is_in_line (after.spot u))) (ap not off)
      (and_from (after.enabled u) (not (is_in_line (after.spot u))) ready (ap not loose))))

  joiner_put : (u : ℕ) → places u v.schedule ≡ 0 → joined (slice_get v.state.threads u) ≡ Some t
      → Stays (slice_get v.state.threads u) (slice_get q.threads u) → IsPut u
  joiner_put u none joins (no_thread was now) = let z : None ≡ Some t = sym (ap joined was) ∙ joins in absurd cc
  joiner_put u none joins (is_new y was now status) = let z : None ≡ Some t = sym (ap joined was) ∙ joins in absurd cc
  joiner_put u none joins (is_kept x y was now status permit told) =
      let j = joining t x.thread.status (sym (ap joined was) ∙ joins) in (
        slice_get_within q.threads u y now,
        and_from (runs u) (places u v.schedule == 0) (joiner_runs u x y j.0 none was now j.1 (status ∙ j.1)) (eq-eqb (places u v.schedule) 0 none),
      )

  next_put : (u : ℕ) → places u v.schedule ≡ 0 → test u ≡ true → IsPut u
  next_put u none is =
      let next = next_is u ∙ is in (
        next_made u is,
        and_from (runs u) (places u v.schedule == 0)
            (or_right (is_started (before.spot u) (after.spot u)) _
            (or_right (is_made_enabled before after u) _ (or_right (is_moved_to_free after (before.spot u) (after.spot u)) _ next)))
            (eq-eqb (places u v.schedule) 0 none),
      )

  these : (u : ℕ) → Waits u → IsPut u
  these u (inl joins, none) = joiner_put u none (sym (joined_in v.state.threads u) ∙ joins) (step.threads u (another u none))
  these u (inr is, none) = next_put u none is

  -- who waits for no end, or for that of another thread, and isn't the next in line, isn't put
  quiet_off : (u : ℕ) → u ≢ t → test u ≡ false → ((x : ℕ) → joined (slice_get v.state.threads u) ≡ Some x → x ≢ t) → runs u ≡ false
  quiet_off u ne last apart =
      let quiet : Quiet v.state q u = record {
        goes = goes;
        now = step.now;
        ends = λ x j none e. ended_back (slice_get v.state.threads x) (slice_get q.threads x) (step.threads x (apart x j)) e;
      } in
      stays_runs p.world v.state q lists u quiet (step.threads u ne) ∙ next_is u ∙ last

  waits_then : (u : ℕ) → places u v.schedule ≡ 0 → runs u ≡ true → test u ≡ false → (m : Option ℕ) → joined (slice_get v.state.threads u) ≡ m
      → Waits u
  waits_then u none run last None joins =
      absurd (no_both (runs u) run (quiet_off u (another u none) last (λ x j. nobody x (sym joins ∙ j))))
    where
      nobody : (x : ℕ) → None ≡ Some x → x ≢ t
      nobody x e = absurd cc
  waits_then u none run last (Some k) joins =
      elim (eqb_tells k t) [
        | inl me ↦ (inl (joined_in v.state.threads u ∙ joins ∙ ap (λ n. Some n) me.1), none)
        | inr other ↦
            absurd (no_both (runs u) run (quiet_off u (another u none) last (λ x j. subst (λ n. n ≢ t) (same k x (sym joins ∙ j)) other.1)))
      ]
    where
      same : (k x : ℕ) → Some k ≡ Some x → k ≡ x
      same k x e = cc

  all : (u : ℕ) → (runs u && (places u v.schedule == 0)) ≡ true → Waits u
  all u e =
      let parts = and_parts (runs u) (places u v.schedule == 0) e in
      let none = eqb-true (places u v.schedule) 0 parts.1 in
      elim (cases_Bool (test u)) [
        | inl is ↦ (inr is, none)
        | inr last ↦ waits_then u none parts.0 last (joined (slice_get v.state.threads u)) refl
      ]

  end_puts : (woken : List ℕ) → IsStrictlyIncreasing woken → ((u : ℕ) → Contains woken u → Waits u) → ((u : ℕ) → Waits u → Contains woken u)
      → put_by (look_of p.world v.state) (look_of p.world q) lists v.schedule (all_threads (look_of p.world q)) ≡ woken
  end_puts woken rising waits listed =
      filter_below (λ u. runs u && (places u v.schedule == 0)) (length q.threads) woken rising (λ u there. these u (waits u there))
      (λ u low e. listed u (all u e))

-- ---- a monitor that loses its owner

first_is_first : (xs : List ℕ) (u : ℕ) → slice_get xs 0 ≡ Some u → is_first xs u ≡ true
first_is_first [] u e = absurd cc
first_is_first (x ∷ xs) u e = let same : x ≡ u = cc in eq-eqb x u same

first_of : (xs : List ℕ) (u : ℕ) → is_first xs u ≡ true → slice_get xs 0 ≡ Some u
first_of [] u e = absurd cc
first_of (x ∷ xs) u e = ap (λ n. Some n) (eqb-true x u e)

first_within : (xs : List ℕ) (u : ℕ) → is_first xs u ≡ true → Contains xs u
first_within [] u e = absurd cc
first_within (x ∷ xs) u e = (zero, omega arith, eqb-true x u e)

pub ends_put_joiners_and_the_first : EndsPutJoinersAndTheFirst
ends_put_joiners_and_the_first p first v q c t o lists woken a mounts goes on step ended lost line rising just =
    end_puts p first v q c t o lists a mounts goes on step ended (is_first (lists o)) next_is
    (λ u is. made_there q.threads u o (spot u is)) woken rising (λ u there. waits u ((just u).0 there)) (λ u w. (just u).1 (listed u w))
  where
    spot : (u : ℕ) → is_first (lists o) u ≡ true → (look_of p.world q).spot u ≡ in_entry_list o
    spot u is = line u (first_within (lists o) u is)

    next_is : (u : ℕ) → is_next p.world v.state q lists u ≡ is_first (lists o) u
    next_is u =
        elim (cases_Bool (is_first (lists o) u)) [
          | inl is ↦
              ap (is_next_in_line (look_of p.world v.state) (look_of p.world q) lists u) (spot u is)
              ∙ next_here p.world v q t o goes step lists lost u
          | inr last ↦ next_other p.world v q t o goes step lists lost u last ((look_of p.world q).spot u) ∙ sym last
        ]

    waits : (u : ℕ) → ((joins_in (rows_of v.state) u ≡ Some t) ⊎ (slice_get (lists o) 0 ≡ Some u)) × (places u v.schedule ≡ 0)
        → ((joins_in (rows_of v.state) u ≡ Some t) ⊎ (is_first (lists o) u ≡ true)) × (places u v.schedule ≡ 0)
    waits u (inl joins, none) = (inl joins, none)
    waits u (inr is, none) = (inr (first_is_first (lists o) u is), none)

    listed : (u : ℕ) → ((joins_in (rows_of v.state) u ≡ Some t) ⊎ (is_first (lists o) u ≡ true)) × (places u v.schedule ≡ 0)
        → ((joins_in (rows_of v.state) u ≡ Some t) ⊎ (slice_get (lists o) 0 ≡ Some u)) × (places u v.schedule ≡ 0)
    listed u (inl joins, none) = (inl joins, none)
    listed u (inr is, none) = (inr (first_of (lists o) u is), none)

-- ---- a monitor that keeps its owner

pub ends_put_joiners_alone : EndsPutJoinersAlone
ends_put_joiners_alone p first v q c t o lists joiners a mounts goes on step ended owned rising just =
    end_puts p first v q c t o lists a mounts goes on step ended (λ u. false)
    (λ u. no_next p.world v.state q lists u (owner_kept p.world v q t o goes step owned) ((look_of p.world q).spot u)) (λ u is. absurd cc)
    joiners rising (λ u there. let h = (just u).0 there in (inl h.0, h.1)) listed
  where
    listed : (u : ℕ) → ((joins_in (rows_of v.state) u ≡ Some t) ⊎ (false ≡ true)) × (places u v.schedule ≡ 0) → Contains joiners u
    listed u (inl joins, none) = (just u).1 (joins, none)
    listed u (inr is, none) = absurd cc
