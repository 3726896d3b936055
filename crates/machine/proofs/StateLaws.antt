-- The parts of a state, of which a thread's frames have come to a carrier, or from one.
use Rattle.std.proofs.Common.{◌≡◌, ◌≢◌, ◌⊎◌, ◌<◌, inl, inr, eqb, ℕ, zero, suc, Bool, true, false, List, [], ◌∷◌, Option, None, Some, length, refl, ap, sym, subst, ◌∙◌, arith}
use Rattle.std.specs.Prelude.{map, slice_get, slice_set}
use Rattle.std.specs.Option.{option_map, option_map_or}
use Rattle.std.proofs.lemmas.Bool.Decides.{eqb_tells}
use Rattle.std.proofs.lemmas.List.{length-map}
use Rattle.std.proofs.lemmas.Option.{slice_get_within}
use Rattle.items.specs.Options.{◌>>=◌}
use Rattle.vthread_state.specs.declared.phase.Phase.{Phase}
use Rattle.vthread_state.specs.declared.thread.Status.{Status}
use Rattle.vthread_state.specs.declared.thread.Status.TheVariants.{New, Live, Done}
use Rattle.vthread_state.specs.declared.thread.Thread.{Thread}
use Rattle.vthread_state.specs.Threads.{phase_at, phase_of, thread_at}
use Rattle.link_model.specs.World.{World}
use Rattle.continuation.specs.Continuation.{Continuation}
use Rattle.schedule_model.specs.Look as looks
use Rattle.ref_model.specs.State.{JavaThread, State}
use Rattle.ref_model.specs.Ending.{is_live}
use Rattle.ref_model.specs.Enabled.{has_ended, is_done}
use Rattle.ref_model.specs.Looks.{look_of, spot_of}
use Rattle.ref_model.proofs.StateLaws.{get_set}
use Rattle.thread_steps.specs.States.{memory_of}
use Rattle.schedule_soundness.proofs.ThreadLists.{not_none, same_some, set_other}
use Rattle.sleep_wheel.specs.Sleepers.{sleeper_at}
use Rattle.program_state.specs.declared.state.ProgramState.{ProgramState}
use Rattle.program_state.specs.Deadlines.{HoldsDeadlines, deadlines_of, key_at}
use Rattle.program_state.specs.Monitors.{HoldsMonitors}
use Rattle.program_state.specs.States.{IsKept, IsState, absent, mounted, waiting, idle, is_started}
use Rattle.machine.specs.Hands.{IsLive}

no_both : (b : Bool) → b ≡ true → b ≡ false → ⊥
no_both b i j = absurd cc

-- ---- a thread by what is seen of it

live_status : (status : Status) → looks.is_live (spot_of status) ≡ true → (phase : Phase) × (status ≡ Live phase)
live_status New e = absurd cc
live_status (Live phase) e = (phase, refl)
live_status Done e = absurd cc

pub live_at : (w : World) (r : State) (t : ℕ) → looks.is_live ((look_of w r).spot t) ≡ true → IsLive r t
live_at w r t e = by (slice_get r.threads t) refl
  where
    by : (o : Option JavaThread) → slice_get r.threads t ≡ o → IsLive r t
    by None at = let bad : looks.is_live looks.absent ≡ true = ap (λ o. looks.is_live (option_map_or (λ (x : JavaThread). spot_of x.thread.status) o looks.absent)) (sym at) ∙ e in absurd cc
    by (Some x) at =
        let on : looks.is_live (spot_of x.thread.status) ≡ true =
        ap (λ o. looks.is_live (option_map_or (λ (x : JavaThread). spot_of x.thread.status) o looks.absent)) (sym at) ∙ e in
        let s = live_status x.thread.status on in
        record { phase = s.0; live = record { thread = x; at = at; status = s.1 } }

pub live_is : (r : State) (t : ℕ) (x : IsLive r t) → is_live x.live.thread.thread.status ≡ true
live_is r t x = ap is_live x.live.status

-- a thread that has ended
pub record Over (r : State) (t : ℕ) : Type 0 where
  pub thread : JavaThread
  pub at : slice_get r.threads t ≡ Some thread
  pub status : thread.thread.status ≡ Done

done_status : (status : Status) → is_done status ≡ true → status ≡ Done
done_status New e = absurd cc
done_status (Live phase) e = absurd cc
done_status Done e = refl

pub over_at : (r : State) (t : ℕ) → has_ended r t ≡ true → Over r t
over_at r t e = by (slice_get r.threads t) refl
  where
    by : (o : Option JavaThread) → slice_get r.threads t ≡ o → Over r t
    by None at = let bad : false ≡ true = ap (λ o. option_map_or (λ (x : JavaThread). is_done x.thread.status) o false) (sym at) ∙ e in absurd cc
    by (Some x) at =
        record {
          thread = x;
          at = at;
          status = done_status x.thread.status (ap (λ o. option_map_or (λ (x : JavaThread). is_done x.thread.status) o false) (sym at) ∙ e);
        }

-- ---- the place of a thread's frames

-- the frames of a live thread that no carrier has
pub record Lies (u : ℕ) (x : JavaThread) (place : Option (Option Continuation)) : Type 0 where
  pub kept : Continuation
  pub at : place ≡ Some (Some kept)
  pub number : kept.thread ≡ u
  pub frames : kept.stack.frames ≡ x.frames

pub lies : (u : ℕ) (b : Bool) (o : Option JavaThread) (place : Option (Option Continuation)) (x : JavaThread) → IsKept u b o place → b ≡ false
    → o ≡ Some x → is_live x.thread.status ≡ true → Lies u x place
lies u b o place x (absent off none at) in_ here live = absurd (not_none o x none here)
lies u b o place x (mounted y out there at begun) in_ here live = absurd (no_both b out in_)
lies u b o place x (waiting y k off there at alive number frames) in_ here live =
    record { kept = k; at = at; number = number; frames = frames ∙ ap (λ (z : JavaThread). z.frames) (same_some o y x there here) }
lies u b o place x (idle y off there at dead) in_ here live =
    absurd (no_both (is_live x.thread.status) live (ap (λ (z : JavaThread). is_live z.thread.status) (sym (same_some o y x there here)) ∙ dead))

-- who is out has no frames there
pub gone : (u : ℕ) (b : Bool) (o : Option JavaThread) (place : Option (Option Continuation)) → IsKept u b o place → b ≡ true → place ≡ Some None
gone u b o place (absent off none at) out = absurd (no_both b out off)
gone u b o place (mounted y is there at begun) out = at
gone u b o place (waiting y k off there at alive number frames) out = absurd (no_both b out off)
gone u b o place (idle y off there at dead) out = absurd (no_both b out off)

kept_same : (u : ℕ) (b d : Bool) (o : Option JavaThread) (f g : Option (Option Continuation)) → d ≡ b → g ≡ f → IsKept u b o f → IsKept u d o g
kept_same u b d o f g e i h = subst (λ c. IsKept u c o g) (sym e) (subst (λ p. IsKept u b o p) (sym i) h)

-- ---- one thread's frames come or go

-- all but the places of frames stays
pub record SameBut (a b : ProgramState) : Type 0 where
  pub memory : b.memory ≡ a.memory
  pub threads : b.threads ≡ a.threads
  pub wakes : b.wakes ≡ a.wakes
  pub monitors : b.monitors ≡ a.monitors
  pub wheel : b.wheel ≡ a.wheel
  pub keys : b.keys.items ≡ a.keys.items
  pub now : b.time ≡ a.time
  pub unnamed : b.unnamed ≡ a.unnamed
  pub most_threads : b.most_threads ≡ a.most_threads

-- at one thread it is as this says, and elsewhere as it was
pub one_place : (a b : ProgramState) (r : State) (out new : ℕ → Bool) (t : ℕ) → SameBut a b → IsState a r out
    → IsKept t (new t) (slice_get r.threads t) (slice_get b.frozen.items t)
    → ((u : ℕ) → u ≢ t → (new u ≡ out u) × (slice_get b.frozen.items u ≡ slice_get a.frozen.items u)) → IsState b r new
one_place a b r out new t same is here elsewhere = record {
  status = ap (λ m. m.status) same.memory ∙ is.status;
  memory = ap memory_of same.memory ∙ is.memory;
  main_threw = ap (λ m. m.main_threw) same.memory ∙ is.main_threw;
  rows = ap (λ x. x.threads) same.threads ∙ is.rows;
  most_threads = same.most_threads ∙ is.most_threads;
  limit = ap (λ x. x.limit) same.threads ∙ is.limit;
  permits = ap (λ f. f.permits) same.wakes ∙ is.permits;
  interrupts = ap (λ f. f.interrupts) same.wakes ∙ is.interrupts;
  unnamed = same.unnamed ∙ is.unnamed;
  monitors = subst (λ m. HoldsMonitors m r.threads r.owners) (sym same.monitors) is.monitors;
  now = same.now ∙ is.now;
  places = ap (λ ks. length ks) same.keys ∙ is.places;
  wheel = subst (λ w. HoldsDeadlines (sleeper_at w) (key_at b.keys.items) (deadlines_of r.now r.threads)) (sym same.wheel)
      (subst (λ ks. HoldsDeadlines (sleeper_at a.wheel) (key_at ks) (deadlines_of r.now r.threads)) (sym same.keys) is.wheel);
  kept = λ u. each u (eqb_tells u t);
}
  where
    each : (u : ℕ) → ((eqb u t ≡ true) × (u ≡ t)) ⊎ ((eqb u t ≡ false) × (u ≢ t)) → IsKept u (new u) (slice_get r.threads u) (slice_get b.frozen.items u)
    each u (inl me) = subst (λ n. IsKept n (new n) (slice_get r.threads n) (slice_get b.frozen.items n)) (sym me.1) here
    each u (inr other) =
        let e = elsewhere u other.1 in
        kept_same u (out u) (new u) (slice_get r.threads u) (slice_get a.frozen.items u) (slice_get b.frozen.items u) e.0 e.1 (is.kept u)

-- a carrier takes the frames of a live thread up
pub taken_state : (a b : ProgramState) (r : State) (out new : ℕ → Bool) (t : ℕ) (x : IsLive r t) (k : Continuation) → SameBut a b → IsState a r out
    → slice_get a.frozen.items t ≡ Some (Some k) → b.frozen.items ≡ slice_set a.frozen.items t None → new t ≡ true
    → ((u : ℕ) → u ≢ t → new u ≡ out u) → IsState b r new
taken_state a b r out new t x k same is at after on elsewhere =
    one_place a b r out new t same is
    (mounted x.live.thread on x.live.at (ap (λ fs. slice_get fs t) after ∙ get_set a.frozen.items t (Some k) None at) (ap is_started x.live.status))
    (λ u ne. (elsewhere u ne, ap (λ fs. slice_get fs u) after ∙ set_other a.frozen.items t u None ne))

-- a carrier puts the frames of a live thread down
pub put_state : (a b : ProgramState) (r : State) (out new : ℕ → Bool) (t : ℕ) (x : IsLive r t) (k : Continuation) → SameBut a b → IsState a r out
    → out t ≡ true → k.thread ≡ t → k.stack.frames ≡ x.live.thread.frames → b.frozen.items ≡ slice_set a.frozen.items t (Some k) → new t ≡ false
    → ((u : ℕ) → u ≢ t → new u ≡ out u) → IsState b r new
put_state a b r out new t x k same is on number frames after off elsewhere =
    let was = gone t (out t) (slice_get r.threads t) (slice_get a.frozen.items t) (is.kept t) on in
    one_place a b r out new t same is
    (waiting x.live.thread k off x.live.at (ap (λ fs. slice_get fs t) after ∙ get_set a.frozen.items t None (Some k) was) (live_is r t x) number frames)
    (λ u ne. (elsewhere u ne, ap (λ fs. slice_get fs u) after ∙ set_other a.frozen.items t u (Some k) ne))

-- a carrier puts a thread down that has ended
pub ended_state : (a b : ProgramState) (r : State) (out new : ℕ → Bool) (t : ℕ) → Over r t → SameBut a b → b.frozen.items ≡ a.frozen.items
    → IsState a r out → out t ≡ true → new t ≡ false → ((u : ℕ) → u ≢ t → new u ≡ out u) → IsState b r new
ended_state a b r out new t x same frozen is on off elsewhere =
    one_place a b r out new t same is
    (idle x.thread off x.at (ap (λ fs. slice_get fs t) frozen ∙ gone t (out t) (slice_get r.threads t) (slice_get a.frozen.items t) (is.kept t) on)
    (ap is_live x.status))
    (λ u ne. (elsewhere u ne, ap (λ fs. slice_get fs u) frozen))

-- who is out may be told by another function
pub others_out : (a : ProgramState) (r : State) (out new : ℕ → Bool) → IsState a r out → ((u : ℕ) → new u ≡ out u) → IsState a r new
others_out a r out new is same = record {
  status = is.status;
  memory = is.memory;
  main_threw = is.main_threw;
  rows = is.rows;
  most_threads = is.most_threads;
  limit = is.limit;
  permits = is.permits;
  interrupts = is.interrupts;
  unnamed = is.unnamed;
  monitors = is.monitors;
  now = is.now;
  places = is.places;
  wheel = is.wheel;
  kept = λ u. kept_same u (out u) (new u) (slice_get r.threads u) (slice_get a.frozen.items u) (slice_get a.frozen.items u) (same u) refl (is.kept u);
}

-- ---- the rows of the table

row_map : (xs : List JavaThread) (t : ℕ) → slice_get (map (λ (x : JavaThread). x.thread) xs) t ≡ option_map (λ (x : JavaThread). x.thread) (slice_get xs t)
row_map [] t = refl
row_map (x ∷ xs) zero = refl
row_map (x ∷ xs) (suc t) = row_map xs t

-- the table has the thread's row
pub row_is : (a : ProgramState) (r : State) (out : ℕ → Bool) (t : ℕ) (x : JavaThread) → IsState a r out → slice_get r.threads t ≡ Some x
    → thread_at a.threads t ≡ Some x.thread
row_is a r out t x is at = ap (λ ts. slice_get ts t) is.rows ∙ row_map r.threads t ∙ ap (option_map (λ (x : JavaThread). x.thread)) at

-- and as many of them
pub rows_length : (a : ProgramState) (r : State) (out : ℕ → Bool) → IsState a r out → length a.threads.threads ≡ length r.threads
rows_length a r out is = ap (λ ts. length ts) is.rows ∙ length-map r.threads (λ (x : JavaThread). x.thread)

pub below_count : (a : ProgramState) (r : State) (out : ℕ → Bool) (t : ℕ) (x : JavaThread) → IsState a r out → slice_get r.threads t ≡ Some x
    → t < length a.threads.threads
below_count a r out t x is at = let same = rows_length a r out is in let inside = slice_get_within r.threads t x at in omega arith

-- the phase of a live thread
pub phase_is : (a : ProgramState) (r : State) (out : ℕ → Bool) (t : ℕ) (x : JavaThread) (phase : Phase) → IsState a r out
    → slice_get r.threads t ≡ Some x → x.thread.status ≡ Live phase → phase_at a.threads t ≡ Some phase
phase_is a r out t x phase is at status =
    ap (λ o. option_map (λ (y : Thread). y.status) o >>= phase_of) (row_is a r out t x is at) ∙ ap phase_of status

phase_status : (status : Status) (phase : Phase) → phase_of status ≡ Some phase → status ≡ Live phase
phase_status New phase e = absurd cc
phase_status (Live other) phase e = let same : other ≡ phase = cc in ap Live same
phase_status Done phase e = absurd cc

pub status_is : (a : ProgramState) (r : State) (out : ℕ → Bool) (t : ℕ) (x : JavaThread) (phase : Phase) → IsState a r out
    → slice_get r.threads t ≡ Some x → phase_at a.threads t ≡ Some phase → x.thread.status ≡ Live phase
status_is a r out t x phase is at e =
    phase_status x.thread.status phase (sym (ap (λ o. option_map (λ (y : Thread). y.status) o >>= phase_of) (row_is a r out t x is at)) ∙ e)

-- a mounted thread that isn't live has ended
started_over : (status : Status) → is_started status ≡ true → phase_of status ≡ None → status ≡ Done
started_over New s e = absurd cc
started_over (Live phase) s e = absurd cc
started_over Done s e = refl

pub out_over : (a : ProgramState) (r : State) (out : ℕ → Bool) (t : ℕ) → IsState a r out → out t ≡ true → phase_at a.threads t ≡ None → Over r t
out_over a r out t is on none = by (is.kept t)
  where
    by : IsKept t (out t) (slice_get r.threads t) (slice_get a.frozen.items t) → Over r t
    by (absent off there at) = absurd (no_both (out t) on off)
    by (mounted x here there at begun) =
        record {
          thread = x;
          at = there;
          status = started_over x.thread.status begun (sym (ap (λ o. option_map (λ (y : Thread). y.status) o >>= phase_of) (row_is a r out t x is there)) ∙ none);
        }
    by (waiting x k off there at alive number frames) = absurd (no_both (out t) on off)
    by (idle x off there at dead) = absurd (no_both (out t) on off)

-- a live one is in a phase
pub out_live : (a : ProgramState) (r : State) (out : ℕ → Bool) (t : ℕ) (phase : Phase) → IsState a r out → out t ≡ true
    → phase_at a.threads t ≡ Some phase → IsLive r t
out_live a r out t phase is on e = by (is.kept t)
  where
    by : IsKept t (out t) (slice_get r.threads t) (slice_get a.frozen.items t) → IsLive r t
    by (absent off there at) = absurd (no_both (out t) on off)
    by (mounted x here there at begun) =
        record { phase = phase; live = record { thread = x; at = there; status = status_is a r out t x phase is there e } }
    by (waiting x k off there at alive number frames) = absurd (no_both (out t) on off)
    by (idle x off there at dead) = absurd (no_both (out t) on off)

-- a mounted thread is in the table
pub out_below : (a : ProgramState) (r : State) (out : ℕ → Bool) (t : ℕ) → IsState a r out → out t ≡ true → t < length a.threads.threads
out_below a r out t is on = by (is.kept t)
  where
    by : IsKept t (out t) (slice_get r.threads t) (slice_get a.frozen.items t) → t < length a.threads.threads
    by (absent off there at) = absurd (no_both (out t) on off)
    by (mounted x here there at begun) = below_count a r out t x is there
    by (waiting x k off there at alive number frames) = absurd (no_both (out t) on off)
    by (idle x off there at dead) = absurd (no_both (out t) on off)
