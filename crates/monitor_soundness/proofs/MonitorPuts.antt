-- Whom a step puts that does something to a monitor.
use Rattle.std.proofs.Common.{◌≡◌, ◌≢◌, ◌⊎◌, inl, inr, eqb, ◌==◌, ◌<◌, ℕ, zero, Bool, true, false, List, [], ◌∷◌, length, Option, Some, None, refl, ap, sym, subst, ◌∙◌, ◌&&◌, ◌||◌, not, arith, cond}
use Rattle.std.specs.Prelude.{Contains, if◌then◌else◌, is_none, is_some, slice_get}
use Rattle.std.specs.Option.{option_map_or}
use Rattle.std.proofs.lemmas.Bool.{and_from, and_right, cases_Bool, eq-eqb, eqb-true, ne_eqb}
use Rattle.std.proofs.lemmas.Bool.Decides.{eqb_tells}
use Rattle.std.proofs.lemmas.Option.{slice_get_within}
use Rattle.vthread_state.specs.declared.phase.Phase.TheVariants.{Entering, Waiting, Reenter}
use Rattle.vthread_state.specs.declared.phase.Wake.TheVariants.{Notified}
use Rattle.vthread_state.specs.declared.thread.Status.{Status}
use Rattle.vthread_state.specs.declared.thread.Status.TheVariants.{New, Live, Done}
use Rattle.link_model.specs.World.{World}
use Rattle.schedule_model.specs.Look.{Look, Spot, absent, unstarted, in_no_list, in_wait_list, in_entry_list, done, is_in_line}
use Rattle.schedule_model.specs.Schedule.{places}
use Rattle.schedule_model.specs.Puts.{all_threads, is_first, is_made_enabled, is_moved_to_free, is_next_in_line, is_started, is_to_run, put_by}
use Rattle.schedule_model.specs.Entries.{has_mounted}
use Rattle.schedule_model.specs.Run.{Scheduled}
use Rattle.schedule_model.proofs.ListLaws.{all_in_order}
use Rattle.schedule_model.proofs.WordLaws.{nobody_is_put, one_is_put}
use Rattle.ref_model.specs.State.{JavaThread, State}
use Rattle.ref_model.specs.Ending.{ending}
use Rattle.ref_model.specs.Waiting.{status_waits_on, status_woken}
use Rattle.ref_model.specs.Enabled.{enabled, has_ended, is_done, is_free, is_ready}
use Rattle.ref_model.specs.Looks.{look_of, spot_of}
use Rattle.schedule_soundness.specs.PutLaws.{EndsNoWait, OthersStayBeside}
use Rattle.schedule_soundness.proofs.LookLaws.{ready_at, spot_at}
use Rattle.schedule_soundness.proofs.PutLaws.{ended_back, mounted_off, unplaced_off}
use Rattle.monitor_soundness.specs.ListLaws.{AreInLine}
use Rattle.monitor_soundness.specs.MonitorPuts.{MonitorStep, LosesOwner, StaysOrIsNotified, stays, is_notified, if_loose, EntersPutNobody, ExitsPutTheFirst, NotifiesPutNobody, InterruptsPutTheWaiter, WakesInLinePutNobody}
use Rattle.monitor_soundness.proofs.Stays.{Quiet, is_next, no_next, old_ends, owned_is, same_status_runs, stays_runs, unplaced_other}

-- ---- nobody is put, where no other thread is to run

nobody_beside : (w : World) (v : Scheduled State) (q : State) (c t : ℕ) (lists : ℕ → List ℕ) → has_mounted v.schedule c t ≡ true
    → ((u : ℕ) → u ≢ t → is_to_run (look_of w v.state) (look_of w q) lists u ≡ false)
    → put_by (look_of w v.state) (look_of w q) lists v.schedule (all_threads (look_of w q)) ≡ []
nobody_beside w v q c t lists mounts off =
    nobody_is_put (look_of w v.state) (look_of w q) lists v.schedule (all_threads (look_of w q)) (λ u. by u (eqb_tells u t))
  where
    runs : ℕ → Bool
    runs = is_to_run (look_of w v.state) (look_of w q) lists

    by : (u : ℕ) → ((eqb u t ≡ true) × (u ≡ t)) ⊎ ((eqb u t ≡ false) × (u ≢ t)) → (runs u && (places u v.schedule == 0)) ≡ false
    by u (inl me) = ap (λ n. runs u && (places n v.schedule == 0)) me.1 ∙ mounted_off v.schedule c t (runs u) mounts
    by u (inr other) = unplaced_off v.schedule u (runs u) (off u other.1)

-- ---- a step that does something to one monitor

module _ (w : World) (v : Scheduled State) (q : State) (t o : ℕ) (goes : ending v.state ≡ None) (step : MonitorStep t o v.state q) where
  step_quiet : EndsNoWait q t → (u : ℕ) → Quiet v.state q u
  step_quiet ends u = record {
    goes = goes;
    now = step.now;
    ends = λ x j none e.
        old_ends v.state q t ends (λ y ne i. ended_back (slice_get v.state.threads y) (slice_get q.threads y) (step.threads y ne) i) x none e;
  }

  -- another thread is to run where it is the next in line
  step_runs : EndsNoWait q t → (lists : ℕ → List ℕ) (u : ℕ) → u ≢ t
      → is_to_run (look_of w v.state) (look_of w q) lists u ≡ is_next w v.state q lists u
  step_runs ends lists u ne = stays_runs w v.state q lists u (step_quiet ends u) (step.threads u ne)

  pub owner_kept : is_free q o ≡ false → (n : ℕ) → (is_free q n ≡ false) ⊎ (q.owners n ≡ v.state.owners n)
  owner_kept owned n = by (eqb_tells n o)
    where
      by : ((eqb n o ≡ true) × (n ≡ o)) ⊎ ((eqb n o ≡ false) × (n ≢ o)) → (is_free q n ≡ false) ⊎ (q.owners n ≡ v.state.owners n)
      by (inl me) = inl (ap (is_free q) me.1 ∙ owned)
      by (inr other) = inr (step.owners n other.1)

  -- ---- the monitor loses its owner

  module _ (lists : ℕ → List ℕ) (lost : LosesOwner o v.state q) where
    pub next_here : (u : ℕ) → is_next_in_line (look_of w v.state) (look_of w q) lists u (in_entry_list o) ≡ is_first (lists o) u
    next_here u =
        ap (λ b. b && (not ((look_of w q).owned o) && is_first (lists o) u)) (owned_is w v.state o false lost.was)
        ∙ ap (λ b. not b && is_first (lists o) u) (owned_is w q o true lost.is)

    other_off : (u n : ℕ) → n ≢ o → is_next_in_line (look_of w v.state) (look_of w q) lists u (in_entry_list n) ≡ false
    other_off u n other =
        ap (λ b. (look_of w v.state).owned n && (not b && is_first (lists n) u)) (ap is_some (step.owners n other))
        ∙ both ((look_of w v.state).owned n) (is_first (lists n) u)
      where
        both : (a b : Bool) → (a && (not a && b)) ≡ false
        both true b = refl
        both false b = refl

    -- who isn't the first in this line isn't the next
    pub next_other : (u : ℕ) → is_first (lists o) u ≡ false → (x : Spot)
        → is_next_in_line (look_of w v.state) (look_of w q) lists u x ≡ false
    next_other u last absent = refl
    next_other u last unstarted = refl
    next_other u last in_no_list = refl
    next_other u last (in_wait_list n) = refl
    next_other u last (in_entry_list n) = by (eqb_tells n o)
      where
        by : ((eqb n o ≡ true) × (n ≡ o)) ⊎ ((eqb n o ≡ false) × (n ≢ o))
            → is_next_in_line (look_of w v.state) (look_of w q) lists u (in_entry_list n) ≡ false
        by (inl me) =
            ap (λ m. is_next_in_line (look_of w v.state) (look_of w q) lists u (in_entry_list m)) me.1 ∙ next_here u ∙ last
        by (inr other) = other_off u n other.1
    next_other u last done = refl

    -- the first in line is
    next_first : (u : ℕ) → (look_of w q).spot u ≡ in_entry_list o → is_first (lists o) u ≡ true → is_next w v.state q lists u ≡ true
    next_first u at first =
        ap (is_next_in_line (look_of w v.state) (look_of w q) lists u) at ∙ next_here u ∙ first

pub enters_put_nobody : EntersPutNobody
enters_put_nobody p v q c t o lists mounts goes step ends owned =
    nobody_beside p.world v q c t lists mounts
    (λ u ne. step_runs p.world v q t o goes step ends lists u ne
    ∙ no_next p.world v.state q lists u (owner_kept p.world v q t o goes step owned) ((look_of p.world q).spot u))

-- ---- the first in line

-- who is somewhere was made
pub made_there : (xs : List JavaThread) (u n : ℕ) → spot_at (slice_get xs u) ≡ in_entry_list n → u < length xs
made_there xs u n e = by (slice_get xs u) refl
  where
    by : (m : Option JavaThread) → slice_get xs u ≡ m → u < length xs
    by None at = let z : absent ≡ in_entry_list n = sym (ap spot_at at) ∙ e in absurd cc
    by (Some x) at = slice_get_within xs u x at

module _ (w : World) (v : Scheduled State) (q : State) (c t o : ℕ) (lists : ℕ → List ℕ) (mounts : has_mounted v.schedule c t ≡ true)
    (goes : ending v.state ≡ None) (step : MonitorStep t o v.state q) (ends : EndsNoWait q t) (lost : LosesOwner o v.state q)
    (line : AreInLine (look_of w q) o (lists o)) where
  abbrev runs_at : ℕ → Bool
  runs_at = is_to_run (look_of w v.state) (look_of w q) lists

  abbrev puts : List ℕ
  puts = put_by (look_of w v.state) (look_of w q) lists v.schedule (all_threads (look_of w q))

  other_runs : (u : ℕ) → u ≢ t → is_first (lists o) u ≡ false → runs_at u ≡ false
  other_runs u ne last =
      step_runs w v q t o goes step ends lists u ne ∙ next_other w v q t o goes step lists lost u last ((look_of w q).spot u)

  nobody_in_line : lists o ≡ [] → puts ≡ []
  nobody_in_line empty = nobody_beside w v q c t lists mounts (λ u ne. other_runs u ne (ap (λ xs. is_first xs u) empty))

  module _ (f : ℕ) (fs : List ℕ) (is : lists o ≡ f ∷ fs) where
    first_spot : (look_of w q).spot f ≡ in_entry_list o
    first_spot = line f (subst (λ xs. Contains xs f) (sym is) (zero, omega arith, refl))

    first_is : (u : ℕ) → is_first (lists o) u ≡ (f == u)
    first_is u = ap (λ xs. is_first xs u) is

    first_runs : f ≢ t → runs_at f ≡ true
    first_runs ne =
        let next = next_first w v q t o goes step lists lost f first_spot (first_is f ∙ eq-eqb f f refl) in
        step_runs w v q t o goes step ends lists f ne ∙ next

    others_off : (u : ℕ) → u ≢ f → (runs_at u && (places u v.schedule == 0)) ≡ false
    others_off u apart = by (eqb_tells u t)
      where
        by : ((eqb u t ≡ true) × (u ≡ t)) ⊎ ((eqb u t ≡ false) × (u ≢ t)) → (runs_at u && (places u v.schedule == 0)) ≡ false
        by (inl me) = ap (λ n. runs_at u && (places n v.schedule == 0)) me.1 ∙ mounted_off v.schedule c t (runs_at u) mounts
        by (inr ne) = unplaced_off v.schedule u (runs_at u) (other_runs u ne.1 (first_is u ∙ ne_eqb f u (λ i. apart (sym i))))

    -- it is in no place
    loose : places f v.schedule ≡ 0 → puts ≡ f ∷ []
    loose unplaced =
        one_is_put (look_of w v.state) (look_of w q) lists v.schedule (all_threads (look_of w q)) f (λ u. alone u (eqb_tells u f))
        ((all_in_order (look_of w q)).once f (made_there q.threads f o first_spot))
      where
        alone : (u : ℕ) → ((eqb u f ≡ true) × (u ≡ f)) ⊎ ((eqb u f ≡ false) × (u ≢ f))
            → (runs_at u && (places u v.schedule == 0)) ≡ (u == f)
        alone u (inl same) =
            ap (λ n. runs_at n && (places n v.schedule == 0)) same.1
            ∙ and_from (runs_at f) (places f v.schedule == 0) (first_runs (unplaced_other v.schedule c t f mounts unplaced))
            (eq-eqb (places f v.schedule) 0 unplaced) ∙ sym same.0
        alone u (inr apart) = others_off u apart.1 ∙ sym apart.0

    -- it is in a place
    placed : (places f v.schedule == 0) ≡ false → puts ≡ []
    placed off =
        nobody_is_put (look_of w v.state) (look_of w q) lists v.schedule (all_threads (look_of w q)) (λ u. alone u (eqb_tells u f))
      where
        alone : (u : ℕ) → ((eqb u f ≡ true) × (u ≡ f)) ⊎ ((eqb u f ≡ false) × (u ≢ f)) → (runs_at u && (places u v.schedule == 0)) ≡ false
        alone u (inl same) =
            ap (λ n. runs_at n && (places n v.schedule == 0)) same.1 ∙ and_right (runs_at f) (places f v.schedule == 0) off
        alone u (inr apart) = others_off u apart.1

    first_put : puts ≡ if_loose (Some f) v.schedule
    first_put = by (eqb_tells (places f v.schedule) 0)
      where
        by : ((eqb (places f v.schedule) 0 ≡ true) × (places f v.schedule ≡ 0))
            ⊎ ((eqb (places f v.schedule) 0 ≡ false) × (places f v.schedule ≢ 0)) → puts ≡ if_loose (Some f) v.schedule
        by (inl unplaced) = loose unplaced.1 ∙ sym (ap (λ b. cond b (f ∷ []) []) unplaced.0)
        by (inr some) = placed some.0 ∙ sym (ap (λ b. cond b (f ∷ []) []) some.0)

  exit_puts : puts ≡ if_loose (slice_get (lists o) 0) v.schedule
  exit_puts = by (lists o) refl
    where
      by : (xs : List ℕ) → lists o ≡ xs → puts ≡ if_loose (slice_get (lists o) 0) v.schedule
      by [] is = nobody_in_line is ∙ sym (ap (λ xs. if_loose (slice_get xs 0) v.schedule) is)
      by (f ∷ fs) is = first_put f fs is ∙ sym (ap (λ xs. if_loose (slice_get xs 0) v.schedule) is)

pub exits_put_the_first : ExitsPutTheFirst
exits_put_the_first p v q c t o lists mounts goes step ends lost line =
    exit_puts p.world v q c t o lists mounts goes step ends lost line

-- ---- waits that end

-- who comes from a wait list to a line, while the owners stay, is put exactly where nobody owns the monitor
pub moved_runs : (w : World) (r q : State) (lists : ℕ → List ℕ) (u o : ℕ) → q.owners ≡ r.owners
    → (look_of w r).spot u ≡ in_wait_list o → (look_of w q).spot u ≡ in_entry_list o
    → is_to_run (look_of w r) (look_of w q) lists u ≡ not ((look_of w q).owned o)
moved_runs w r q lists u o owners was now =
    let before = look_of w r in
    let after = look_of w q in
    ap (λ x. is_started x (after.spot u) || (is_made_enabled before after u || (is_moved_to_free after x (after.spot u) || is_next w r q lists u))) was
    ∙ ap (λ x. is_made_in x || (is_moved_to_free after (in_wait_list o) x || is_next_in_line before after lists u x)) now
    ∙ ap (λ b. is_made_in (in_entry_list o) || (not (after.owned o) || b)) (no_next w r q lists u (λ n. inr (ap (λ f. f n) owners)) (in_entry_list o))
    ∙ rest (before.enabled u) (after.enabled u) (not (after.owned o))
  where
    is_made_in : Spot → Bool
    is_made_in x = not ((look_of w r).enabled u) && ((look_of w q).enabled u && not (is_in_line x))

    rest : (a b c : Bool) → ((not a && (b && false)) || (c || false)) ≡ c
    rest true b true = refl
    rest true b false = refl
    rest false true true = refl
    rest false true false = refl
    rest false false true = refl
    rest false false false = refl

-- ---- a notification

waits_here : (o : ℕ) (status : Status) → status_waits_on o status ≡ true
    → (count : ℕ) × (deadline : Option ℕ) × (status ≡ Live (Waiting o count deadline))
waits_here o New e = absurd cc
waits_here o Done e = absurd cc
waits_here o (Live (Waiting n count deadline)) e = (count, deadline, ap (λ m. Live (Waiting m count deadline)) (eqb-true n o e))
waits_here o (Live phase) e = absurd cc

pub notifies_put_nobody : NotifiesPutNobody
notifies_put_nobody p v q c t o lists mounts goes tells ends =
    nobody_beside w v q c t lists mounts (λ u ne. by u (tells.threads u ne))
  where
    w : World
    w = p.world

    ended_before : (u : ℕ) → StaysOrIsNotified o (slice_get v.state.threads u) (slice_get q.threads u) → has_ended q u ≡ true
        → has_ended v.state u ≡ true
    ended_before u (stays kept) e = ended_back (slice_get v.state.threads u) (slice_get q.threads u) kept e
    ended_before u (is_notified x y was now waits status) e =
        let h = waits_here o x.thread.status waits in
        let z : false ≡ true = sym (ap ended_at now ∙ ap is_done (status ∙ ap (status_woken Notified) h.2)) ∙ e in absurd cc
      where
        ended_at : Option JavaThread → Bool
        ended_at m = option_map_or (λ (x : JavaThread). is_done x.thread.status) m false

    quiet : (u : ℕ) → Quiet v.state q u
    quiet u = record {
      goes = goes;
      now = tells.now;
      ends = λ x j none e. old_ends v.state q t ends (λ y ne i. ended_before y (tells.threads y ne) i) x none e;
    }

    same_owners : (n : ℕ) → (is_free q n ≡ false) ⊎ (q.owners n ≡ v.state.owners n)
    same_owners n = inr (ap (λ f. f n) tells.owners)

    by : (u : ℕ) → StaysOrIsNotified o (slice_get v.state.threads u) (slice_get q.threads u)
        → is_to_run (look_of w v.state) (look_of w q) lists u ≡ false
    by u (stays kept) =
        stays_runs w v.state q lists u (quiet u) kept ∙ no_next w v.state q lists u same_owners ((look_of w q).spot u)
    by u (is_notified x y was now waits status) =
        let h = waits_here o x.thread.status waits in
        moved_runs w v.state q lists u o tells.owners (ap spot_at was ∙ ap spot_of h.2)
        (ap spot_at now ∙ ap spot_of (status ∙ ap (status_woken Notified) h.2))
        ∙ ap not (owned_is w q o false (ap (λ f. is_none (f o)) tells.owners ∙ tells.owned))

-- ---- a step that changes two threads

module _ (w : World) (v : Scheduled State) (q : State) (c t u : ℕ) (lists : ℕ → List ℕ) (mounts : has_mounted v.schedule c t ≡ true)
    (goes : ending v.state ≡ None) (others : OthersStayBeside t u v.state q) (ends : EndsNoWait q t) where
  -- nobody but the second is put, where that one hasn't ended just now
  beside_off : (has_ended q u ≡ true → has_ended v.state u ≡ true) → (x : ℕ) → x ≢ u
      → (is_to_run (look_of w v.state) (look_of w q) lists x && (places x v.schedule == 0)) ≡ false
  beside_off old x other = by (eqb_tells x t)
    where
      runs : Bool
      runs = is_to_run (look_of w v.state) (look_of w q) lists x

      old_here : (y : ℕ) → y ≢ t → has_ended q y ≡ true → ((eqb y u ≡ true) × (y ≡ u)) ⊎ ((eqb y u ≡ false) × (y ≢ u))
          → has_ended v.state y ≡ true
      old_here y ne e (inl it) = ap (has_ended v.state) it.1 ∙ old (ap (has_ended q) (sym it.1) ∙ e)
      old_here y ne e (inr beside) = ended_back (slice_get v.state.threads y) (slice_get q.threads y) (others.threads y ne beside.1) e

      by : ((eqb x t ≡ true) × (x ≡ t)) ⊎ ((eqb x t ≡ false) × (x ≢ t)) → (runs && (places x v.schedule == 0)) ≡ false
      by (inl me) = ap (λ n. runs && (places n v.schedule == 0)) me.1 ∙ mounted_off v.schedule c t runs mounts
      by (inr apart) =
          let quiet : Quiet v.state q x = record {
            goes = goes;
            now = others.now;
            ends = λ y j none e. old_ends v.state q t ends (λ z ne i. old_here z ne i (eqb_tells z u)) y none e;
          } in
          unplaced_off v.schedule x runs
          (stays_runs w v.state q lists x quiet (others.threads x apart.1 other)
          ∙ no_next w v.state q lists x (λ n. inr (ap (λ f. f n) others.owners)) ((look_of w q).spot x))

-- ---- an interrupt

-- a thread in line may step exactly where nobody owns the monitor
line_status : (q : State) (y : JavaThread) (status : Status) (o : ℕ) → spot_of status ≡ in_entry_list o → is_ready q y status ≡ is_free q o
line_status q y New o e = absurd cc
line_status q y Done o e = absurd cc
line_status q y (Live (Entering n)) o e = same q n o e
  where
    same : (q : State) (n o : ℕ) → in_entry_list n ≡ in_entry_list o → is_free q n ≡ is_free q o
    same q n o e = let i : n ≡ o = cc in ap (is_free q) i
line_status q y (Live (Reenter n count wake)) o e = same q n o e
  where
    same : (q : State) (n o : ℕ) → in_entry_list n ≡ in_entry_list o → is_free q n ≡ is_free q o
    same q n o e = let i : n ≡ o = cc in ap (is_free q) i
line_status q y (Live (Waiting n count deadline)) o e = absurd cc
line_status q y (Live phase) o e = absurd cc

line_thread : (q : State) (m : Option JavaThread) (o : ℕ) → spot_at m ≡ in_entry_list o → ready_at q m ≡ is_free q o
line_thread q None o e = absurd cc
line_thread q (Some y) o e = line_status q y y.thread.status o e

pub line_enabled : (w : World) (q : State) (u o : ℕ) → ending q ≡ None → (look_of w q).spot u ≡ in_entry_list o
    → enabled q u ≡ not ((look_of w q).owned o)
line_enabled w q u o on at =
    ap (λ m. is_none m && ready_at q (slice_get q.threads u)) on ∙ line_thread q (slice_get q.threads u) o at
    ∙ not_owned (is_free q o) refl
  where
    twice : (b : Bool) → b ≡ not (not b)
    twice true = refl
    twice false = refl

    not_owned : (b : Bool) → is_free q o ≡ b → is_free q o ≡ not ((look_of w q).owned o)
    not_owned b e = e ∙ twice b ∙ sym (ap not (owned_is w q o b e))

pub interrupts_put_the_waiter : InterruptsPutTheWaiter
interrupts_put_the_waiter p v q c t u o lists mounts goes on others ends was now = by (cases_Bool alone)
  where
    w : World
    w = p.world

    before : Look
    before = look_of w v.state

    after : Look
    after = look_of w q

    runs : ℕ → Bool
    runs = is_to_run before after lists

    alone : Bool
    alone = (places u v.schedule == 0) && enabled q u

    puts : List ℕ
    puts = put_by before after lists v.schedule (all_threads after)

    runs_now : runs u ≡ enabled q u
    runs_now = moved_runs w v.state q lists u o others.owners was now ∙ sym (line_enabled w q u o on now)

    at : (x : ℕ) → x ≡ u → (runs x && (places x v.schedule == 0)) ≡ alone
    at x me = ap (λ n. runs n && (places n v.schedule == 0)) me ∙ ap (λ b. b && (places u v.schedule == 0)) runs_now ∙ turned (enabled q u) (places u v.schedule == 0)
      where
        turned : (a b : Bool) → (a && b) ≡ (b && a)
        turned true true = refl
        turned true false = refl
        turned false true = refl
        turned false false = refl

    -- it goes on
    old : has_ended q u ≡ true → has_ended v.state u ≡ true
    old e = absurd (goes_there (slice_get q.threads u) now e)
      where
        goes_status : (status : Status) → spot_of status ≡ in_entry_list o → is_done status ≡ true → ⊥
        goes_status New e d = absurd cc
        goes_status (Live phase) e d = absurd cc
        goes_status Done e d = absurd cc

        goes_there : (m : Option JavaThread) → spot_at m ≡ in_entry_list o → option_map_or (λ (x : JavaThread). is_done x.thread.status) m false ≡ true → ⊥
        goes_there None e d = absurd cc
        goes_there (Some y) e d = goes_status y.thread.status e d

    others_off : (x : ℕ) → x ≢ u → (runs x && (places x v.schedule == 0)) ≡ false
    others_off x ne = beside_off w v q c t u lists mounts goes others ends old x ne

    one : alone ≡ true → (x : ℕ) → ((eqb x u ≡ true) × (x ≡ u)) ⊎ ((eqb x u ≡ false) × (x ≢ u))
        → (runs x && (places x v.schedule == 0)) ≡ (x == u)
    one is x (inl me) = at x me.1 ∙ is ∙ sym me.0
    one is x (inr other) = others_off x other.1 ∙ sym other.0

    none : alone ≡ false → (x : ℕ) → ((eqb x u ≡ true) × (x ≡ u)) ⊎ ((eqb x u ≡ false) × (x ≢ u))
        → (runs x && (places x v.schedule == 0)) ≡ false
    none off x (inl me) = at x me.1 ∙ off
    none off x (inr other) = others_off x other.1

    by : (alone ≡ true) ⊎ (alone ≡ false) → puts ≡ (if alone then u ∷ [] else [])
    by (inl is) =
        one_is_put before after lists v.schedule (all_threads after) u (λ x. one is x (eqb_tells x u))
        ((all_in_order after).once u (made_there q.threads u o now)) ∙ sym (ap (λ b. if b then u ∷ [] else []) is)
    by (inr off) =
        nobody_is_put before after lists v.schedule (all_threads after) (λ x. none off x (eqb_tells x u))
        ∙ sym (ap (λ b. if b then u ∷ [] else []) off)

-- ---- a thread in line

pub wakes_in_line_put_nobody : WakesInLinePutNobody
wakes_in_line_put_nobody p v q c t u lists mounts goes others ends woken in_line =
    nobody_is_put before after lists v.schedule (all_threads after) (λ x. by x (eqb_tells x u))
  where
    w : World
    w = p.world

    before : Look
    before = look_of w v.state

    after : Look
    after = look_of w q

    runs : ℕ → Bool
    runs = is_to_run before after lists

    stays_in_line : is_in_line (after.spot u) ≡ true
    stays_in_line =
        ap (λ m. is_in_line (spot_at m)) woken.is ∙ ap (λ s. is_in_line (spot_of s)) woken.status
        ∙ sym (ap (λ m. is_in_line (spot_at m)) woken.was) ∙ in_line

    unmade : is_made_enabled before after u ≡ false
    unmade =
        ap (λ b. not (before.enabled u) && (after.enabled u && not b)) stays_in_line
        ∙ and_right (not (before.enabled u)) (after.enabled u && false) (and_right (after.enabled u) false refl)

    off : runs u ≡ false
    off =
        same_status_runs w v.state q lists u woken.old woken.new woken.was woken.is woken.status unmade
        ∙ no_next w v.state q lists u (λ n. inr (ap (λ f. f n) others.owners)) (after.spot u)

    old : has_ended q u ≡ true → has_ended v.state u ≡ true
    old e = ap ended_at woken.was ∙ sym (ap is_done woken.status) ∙ sym (ap ended_at woken.is) ∙ e
      where
        ended_at : Option JavaThread → Bool
        ended_at m = option_map_or (λ (x : JavaThread). is_done x.thread.status) m false

    by : (x : ℕ) → ((eqb x u ≡ true) × (x ≡ u)) ⊎ ((eqb x u ≡ false) × (x ≢ u)) → (runs x && (places x v.schedule == 0)) ≡ false
    by x (inl me) = ap (λ n. runs n && (places n v.schedule == 0)) me.1 ∙ unplaced_off v.schedule u (runs u) off
    by x (inr other) = beside_off w v q c t u lists mounts goes others ends old x other.1
