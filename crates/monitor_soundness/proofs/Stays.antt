-- A thread that stays as it was is put exactly where it is the first in line for a monitor that loses its owner.
use Rattle.std.proofs.Common.{◌≡◌, ◌≢◌, ◌⊎◌, inl, inr, eqb, ℕ, Bool, true, false, List, Option, Some, None, refl, ap, sym, ◌∙◌, ◌&&◌, ◌||◌, not, arith}
use Rattle.std.specs.Prelude.{is_none, is_some, slice_get}
use Rattle.std.proofs.lemmas.Bool.{and_from, and_parts, and_right}
use Rattle.std.proofs.lemmas.Bool.Decides.{eqb_tells}
use Rattle.vthread_state.specs.declared.phase.Phase.TheVariants.{Run, Throwing, Entering, Waiting, Reenter, Parked, Asleep, Joining}
use Rattle.vthread_state.specs.declared.thread.Status.{Status}
use Rattle.vthread_state.specs.declared.thread.Status.TheVariants.{New, Live, Done}
use Rattle.vthread_state.specs.Threads.{target_of_status}
use Rattle.link_model.specs.World.{World}
use Rattle.schedule_model.specs.Look.{Spot, absent, unstarted, in_no_list, in_wait_list, in_entry_list, done, is_in_line, is_live as is_live_spot}
use Rattle.schedule_model.specs.Schedule.{Schedule, places}
use Rattle.schedule_model.specs.Puts.{is_first, is_made_enabled, is_moved_to_free, is_next_in_line, is_started, is_to_run}
use Rattle.schedule_model.specs.Entries.{has_mounted}
use Rattle.schedule_model.proofs.EntryLaws.{on_there}
use Rattle.ref_model.specs.State.{JavaThread, State}
use Rattle.ref_model.specs.Ending.{ending}
use Rattle.ref_model.specs.Waiting.{is_reached}
use Rattle.ref_model.specs.Enabled.{has_ended, is_free, is_ready}
use Rattle.ref_model.specs.Looks.{look_of, spot_of}
use Rattle.schedule_soundness.specs.PutLaws.{EndsNoWait, Stays, no_thread, is_new, is_kept}
use Rattle.schedule_soundness.proofs.LookLaws.{ready_at, spot_at}
use Rattle.schedule_soundness.proofs.Placed.{dead_next, dead_off}
use Rattle.schedule_soundness.proofs.PutLaws.{joined, no_end, no_move, no_start, or_back}

pub no_both : (b : Bool) → b ≡ true → b ≡ false → ⊥
no_both b i j = absurd cc

-- ---- a spot that stays

-- ---- a thread that stays, and is in no line, isn't made enabled

-- the program went on, the time stays, and the ends of threads are no news to a thread
pub record Quiet (r q : State) (u : ℕ) : Type 0 where
  pub goes : ending r ≡ None
  pub now : q.now ≡ r.now
  pub ends : (v : ℕ) → joined (slice_get r.threads u) ≡ Some v → is_none (ending q) ≡ true → has_ended q v ≡ true → has_ended r v ≡ true

-- what it needs to go on it had before
ready_back : (r q : State) (x y : JavaThread) (status : Status) → q.now ≡ r.now → y.permit ≡ x.permit → y.interrupted ≡ x.interrupted
    → ((v : ℕ) → target_of_status status ≡ Some v → has_ended q v ≡ true → has_ended r v ≡ true) → is_in_line (spot_of status) ≡ false
    → is_ready q y status ≡ true → is_ready r x status ≡ true
ready_back r q x y New now permit told ends free e = absurd cc
ready_back r q x y Done now permit told ends free e = absurd cc
ready_back r q x y (Live Run) now permit told ends free e = refl
ready_back r q x y (Live (Throwing o)) now permit told ends free e = refl
ready_back r q x y (Live (Entering o)) now permit told ends free e = absurd cc
ready_back r q x y (Live (Waiting o count deadline)) now permit told ends free e = absurd cc
ready_back r q x y (Live (Reenter o count wake)) now permit told ends free e = absurd cc
ready_back r q x y (Live (Parked deadline)) now permit told ends free e =
    or_back y.permit (y.interrupted || is_reached q.now deadline) x.permit (x.interrupted || is_reached r.now deadline) (λ i. sym permit ∙ i)
    (or_back y.interrupted (is_reached q.now deadline) x.interrupted (is_reached r.now deadline) (λ i. sym told ∙ i)
    (λ i. sym (ap (λ n. is_reached n deadline) now) ∙ i)) e
ready_back r q x y (Live (Asleep deadline)) now permit told ends free e =
    or_back y.interrupted (is_reached q.now (Some deadline)) x.interrupted (is_reached r.now (Some deadline)) (λ i. sym told ∙ i)
    (λ i. sym (ap (λ n. is_reached n (Some deadline)) now) ∙ i) e
ready_back r q x y (Live (Joining u deadline)) now permit told ends free e =
    or_back (has_ended q u) (y.interrupted || is_reached q.now deadline) (has_ended r u) (x.interrupted || is_reached r.now deadline) (ends u refl)
    (or_back y.interrupted (is_reached q.now deadline) x.interrupted (is_reached r.now deadline) (λ i. sym told ∙ i)
    (λ i. sym (ap (λ n. is_reached n deadline) now) ∙ i)) e

not_made : (a b c : Bool) → (b ≡ true → c ≡ true → a ≡ true) → (not a && (b && c)) ≡ false
not_made true b c back = refl
not_made false true true back = let z : false ≡ true = back refl refl in absurd cc
not_made false true false back = refl
not_made false false c back = refl

kept_unmade : (w : World) (r q : State) (u : ℕ) (x y : JavaThread) → Quiet r q u → slice_get r.threads u ≡ Some x
    → slice_get q.threads u ≡ Some y → y.thread.status ≡ x.thread.status → y.permit ≡ x.permit → y.interrupted ≡ x.interrupted
    → is_made_enabled (look_of w r) (look_of w q) u ≡ false
kept_unmade w r q u x y h was now status permit told =
    not_made ((look_of w r).enabled u) ((look_of w q).enabled u) (not (is_in_line ((look_of w q).spot u))) back
  where
    off : (b : Bool) → not b ≡ true → b ≡ false
    off true e = absurd cc
    off false e = refl

    back : (look_of w q).enabled u ≡ true → not (is_in_line ((look_of w q).spot u)) ≡ true → (look_of w r).enabled u ≡ true
    back on free =
        let parts = and_parts (is_none (ending q)) (ready_at q (slice_get q.threads u)) on in
        let ready : is_ready q y x.thread.status ≡ true = ap (is_ready q y) (sym status) ∙ sym (ap (ready_at q) now) ∙ parts.1 in
        let loose : is_in_line (spot_of x.thread.status) ≡ false =
        ap (λ s. is_in_line (spot_of s)) (sym status) ∙ sym (ap (λ o. is_in_line (spot_at o)) now) ∙ off (is_in_line ((look_of w q).spot u)) free in
        let joins : (v : ℕ) → target_of_status x.thread.status ≡ Some v → has_ended q v ≡ true → has_ended r v ≡ true =
        λ v j e. h.ends v (ap joined was ∙ j) parts.0 e in
        and_from (is_none (ending r)) (ready_at r (slice_get r.threads u)) (ap is_none h.goes)
        (ap (ready_at r) was ∙ ready_back r q x y x.thread.status h.now permit told joins loose ready)

only_last : (a b c d : Bool) → a ≡ false → b ≡ false → c ≡ false → (a || (b || (c || d))) ≡ d
only_last a b c d e f g = ap (λ x. x || (b || (c || d))) e ∙ ap (λ x. x || (c || d)) f ∙ ap (λ x. x || d) g

-- what of its being put is seen by where it is
abbrev pub is_next : World → State → State → (ℕ → List ℕ) → ℕ → Bool
is_next w r q lists u = is_next_in_line (look_of w r) (look_of w q) lists u ((look_of w q).spot u)

-- its status stays
pub same_status_runs : (w : World) (r q : State) (lists : ℕ → List ℕ) (u : ℕ) (x y : JavaThread) → slice_get r.threads u ≡ Some x
    → slice_get q.threads u ≡ Some y → y.thread.status ≡ x.thread.status → is_made_enabled (look_of w r) (look_of w q) u ≡ false
    → is_to_run (look_of w r) (look_of w q) lists u ≡ is_next w r q lists u
same_status_runs w r q lists u x y was now status unmade =
    let before = look_of w r in
    let after = look_of w q in
    let spot = spot_of x.thread.status in
    let spot_was : before.spot u ≡ spot = ap spot_at was in
    let spot_is : after.spot u ≡ spot = ap spot_at now ∙ ap spot_of status in
    only_last (is_started (before.spot u) (after.spot u)) (is_made_enabled before after u)
    (is_moved_to_free after (before.spot u) (after.spot u)) (is_next_in_line before after lists u (after.spot u))
    (ap (λ z. is_started z (after.spot u)) spot_was ∙ ap (is_started spot) spot_is ∙ no_start spot)
    unmade
    (ap (λ z. is_moved_to_free after z (after.spot u)) spot_was ∙ ap (is_moved_to_free after spot) spot_is ∙ no_move after spot)

dead_runs : (w : World) (r q : State) (lists : ℕ → List ℕ) (u : ℕ) → is_live_spot (spot_at (slice_get q.threads u)) ≡ false
    → is_to_run (look_of w r) (look_of w q) lists u ≡ is_next w r q lists u
dead_runs w r q lists u e =
    dead_off w r q lists u e ∙ sym (dead_next (look_of w r) (look_of w q) lists u (spot_at (slice_get q.threads u)) e)

pub stays_runs : (w : World) (r q : State) (lists : ℕ → List ℕ) (u : ℕ) → Quiet r q u → Stays (slice_get r.threads u) (slice_get q.threads u)
    → is_to_run (look_of w r) (look_of w q) lists u ≡ is_next w r q lists u
stays_runs w r q lists u h (no_thread was now) = dead_runs w r q lists u (ap (λ o. is_live_spot (spot_at o)) now)
stays_runs w r q lists u h (is_new y was now status) =
    dead_runs w r q lists u (ap (λ o. is_live_spot (spot_at o)) now ∙ ap (λ s. is_live_spot (spot_of s)) status)
stays_runs w r q lists u h (is_kept x y was now status permit told) =
    same_status_runs w r q lists u x y was now status (kept_unmade w r q u x y h was now status permit told)

-- ---- who is the next in line

free_is_owned : {A : Type 0} (o : Option A) (b : Bool) → is_none o ≡ b → is_some o ≡ not b
free_is_owned None b e = ap not e
free_is_owned (Some x) b e = ap not e

pub owned_is : (w : World) (r : State) (o : ℕ) (b : Bool) → is_free r o ≡ b → (look_of w r).owned o ≡ not b
owned_is w r o b e = free_is_owned (r.owners o) b e

same_owner_off : (a b c : Bool) → b ≡ a → (a && (not b && c)) ≡ false
same_owner_off true b c e = ap (λ x. not x && c) e
same_owner_off false b c e = refl

-- nobody, where each monitor has an owner, or has the one that it had
pub no_next : (w : World) (r q : State) (lists : ℕ → List ℕ) (u : ℕ)
    → ((o : ℕ) → (is_free q o ≡ false) ⊎ (q.owners o ≡ r.owners o)) → (x : Spot)
    → is_next_in_line (look_of w r) (look_of w q) lists u x ≡ false
no_next w r q lists u kept absent = refl
no_next w r q lists u kept unstarted = refl
no_next w r q lists u kept in_no_list = refl
no_next w r q lists u kept (in_wait_list o) = refl
no_next w r q lists u kept (in_entry_list o) = by (kept o)
  where
    by : (is_free q o ≡ false) ⊎ (q.owners o ≡ r.owners o)
        → ((look_of w r).owned o && (not ((look_of w q).owned o) && is_first (lists o) u)) ≡ false
    by (inl owned) =
        ap (λ b. (look_of w r).owned o && (not b && is_first (lists o) u)) (owned_is w q o false owned)
        ∙ and_right ((look_of w r).owned o) false refl
    by (inr same) = same_owner_off ((look_of w r).owned o) ((look_of w q).owned o) (is_first (lists o) u) (ap is_some same)
no_next w r q lists u kept done = refl

-- ---- who ends

-- where no other thread ends, and the end of the one that steps is no news, none is
pub old_ends : (r q : State) (t : ℕ) → EndsNoWait q t → ((u : ℕ) → u ≢ t → has_ended q u ≡ true → has_ended r u ≡ true) → (x : ℕ)
    → is_none (ending q) ≡ true → has_ended q x ≡ true → has_ended r x ≡ true
old_ends r q t ends old x none e = by (eqb_tells x t)
  where
    by : ((eqb x t ≡ true) × (x ≡ t)) ⊎ ((eqb x t ≡ false) × (x ≢ t)) → has_ended r x ≡ true
    by (inl me) = absurd (no_end q t ends none (ap (has_ended q) (sym me.1) ∙ e))
    by (inr other) = old x other.1 e

-- ---- places

-- who has a thread mounted has it in a place
pub unplaced_other : (s : Schedule) (c t u : ℕ) → has_mounted s c t ≡ true → places u s ≡ 0 → u ≢ t
unplaced_other s c t u mounts none same = absurd (omega (arith, ap (λ n. places n s) (sym same) ∙ none, on_there s c t mounts))
