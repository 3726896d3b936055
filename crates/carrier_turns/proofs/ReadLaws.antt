-- A step that reads the clock: its thread runs, and it makes no thread.
use Rattle.std.proofs.Common.{◌≡◌, ℕ, suc, Bool, true, false, List, Option, Some, None, slice_get, refl, ap, sym, ◌∙◌, subst, not}
use Rattle.std.specs.Prelude.{map, nat_lt, slice_set, if◌then◌else◌}
use Rattle.std.specs.Option.{option_map_or}
use Rattle.std.proofs.lemmas.Bool.{and_parts}
use Rattle.items.specs.Options.{◌>>=◌}
use Rattle.items.proofs.Binds.{bind_is, some_is}
use Rattle.vthread_state.specs.declared.phase.Phase.TheVariants.{Run}
use Rattle.vthread_state.specs.declared.thread.Status.TheVariants.{Live}
use Rattle.link_model.specs.World.{World}
use Rattle.state_model.specs.Frames.{Frame}
use Rattle.schedule_model.specs.Run.{Scheduled}
use Rattle.ref_model.specs.Setting.{Setting}
use Rattle.ref_model.specs.State.{JavaThread, State, frames_at, running_frames, with_frames}
use Rattle.ref_model.specs.Asking.{Asking}
use Rattle.ref_model.specs.Ending.{ending}
use Rattle.ref_model.specs.Requests as requests
use Rattle.ref_model.specs.Requests.{Request, reads_clock}
use Rattle.ref_model.specs.Resuming.{asking_at, asking_in, next_asks}
use Rattle.ref_model.specs.Starting.{may_create}
use Rattle.ref_model.specs.Waiting.{at_time, thread_at_time}
use Rattle.ref_model.specs.Looks.{is_create, lacks_threads_next, reads_clock_next}
use Rattle.ref_model.proofs.StateLaws.{frames_is, get_set}
use Rattle.schedule_soundness.specs.ClockLaws.{reads_clock_after}
use Rattle.machine.specs.Hands.{HasHand}
use Rattle.carrier_turns.proofs.AheadLaws.{ahead_steps, runs_with}

-- what asks for the time makes no thread
reads_no_create : (q : Request) → reads_clock q ≡ true → is_create q ≡ true → ⊥
reads_no_create (requests.creates kind object name) e f = absurd cc
reads_no_create q e f = absurd cc

same_some : {A : Type 0} (o : Option A) (x y : A) → o ≡ Some x → o ≡ Some y → x ≡ y
same_some o x y e f = cc

-- what is asked passes the test
asked : (o : Option (Request × Asking)) (test : Request → Bool) → option_map_or (λ (x : Request × Asking). test x.0) o false ≡ true
    → (x : Request × Asking) × (o ≡ Some x) × (test x.0 ≡ true)
asked None test e = absurd cc
asked (Some x) test e = (x, refl, e)

-- its thread runs
pub reads_runs : (w : World) (r : State) (t : ℕ) (x : JavaThread) (frames : List Frame) → slice_get r.threads t ≡ Some x
    → reads_clock_next w (with_frames r t frames) t ≡ true → x.thread.status ≡ Live Run
reads_runs w r t x frames at e =
    let a = asked (asking_at w (with_frames r t frames) t) reads_clock e in
    let mine = some_is (frames_at (with_frames r t frames) t) (asking_in w (with_frames r t frames).memory) a.0 a.1 in
    runs_with r t x frames mine.0 at mine.1

-- what a thread that runs asks, by its frames and the memory
asks_in : (w : World) (r : State) (t : ℕ) (x : JavaThread) (frames : List Frame) → slice_get r.threads t ≡ Some x → x.thread.status ≡ Live Run
    → asking_at w (with_frames r t frames) t ≡ asking_in w r.memory frames
asks_in w r t x frames at running =
    let y : JavaThread = record x { frames = frames } in
    let same = frames_is r t x frames at in
    let here : frames_at (with_frames r t frames) t ≡ Some frames =
    ap (λ (s : State). frames_at s t) same
    ∙ bind_is (slice_get (slice_set r.threads t y) t) (λ (z : JavaThread). running_frames z.frames z.thread.status) y (Some frames) (get_set r.threads t x y at)
    (ap (running_frames frames) running) in
    ap (λ o. o >>= asking_in w (with_frames r t frames).memory) here ∙ ap (λ (s : State). asking_in w s.memory frames) same

-- time leaves the memory
tick_memory : (r q : State) (now : ℕ) → at_time r now ≡ Some q → q.memory ≡ r.memory
tick_memory r q now e = by (nat_lt r.now now) e
  where
    by : (b : Bool) → (if b then Some (record r { now = now; threads = map (thread_at_time now) r.threads }) else None) ≡ Some q → q.memory ≡ r.memory
    by false e = absurd cc
    by true e = ap (λ (s : State). s.memory) (inner e)
      where
        inner : Some (record r { now = now; threads = map (thread_at_time now) r.threads }) ≡ Some q → q ≡ record r { now = now; threads = map (thread_at_time now) r.threads }
        inner e = cc

-- before time goes on and after it, such a step makes no thread
pub reads_lack : (w : World) (r q : State) (now t : ℕ) (x y : JavaThread) (frames : List Frame) → at_time r now ≡ Some q → slice_get r.threads t ≡ Some x
    → slice_get q.threads t ≡ Some y → y.thread.status ≡ Live Run → reads_clock_next w (with_frames r t frames) t ≡ true
    → lacks_threads_next w (with_frames q t frames) t ≡ true → ⊥
reads_lack w r q now t x y frames tick at later running reads lacks =
    let before = asks_in w r t x frames at (reads_runs w r t x frames at reads) in
    let after = asks_in w q t y frames later running in
    let a = asked (asking_at w (with_frames r t frames) t) reads_clock reads in
    let b = asked (asking_at w (with_frames q t frames) t) is_create
    (and_parts (not (may_create (with_frames q t frames))) (next_asks w (with_frames q t frames) t is_create) lacks).1 in
    let same : a.0 ≡ b.0 =
    same_some (asking_in w r.memory frames) a.0 b.0 (sym before ∙ a.1) (ap (λ m. asking_in w m frames) (sym (tick_memory r q now tick)) ∙ sym after ∙ b.1) in
    reads_no_create (b.0).0 (subst (λ (z : Request × Asking). reads_clock z.0 ≡ true) same a.2) b.2

-- and reads the clock
pub reads_still : (w : World) (r q : State) (now t : ℕ) (x y : JavaThread) (frames : List Frame) → at_time r now ≡ Some q → slice_get r.threads t ≡ Some x
    → slice_get q.threads t ≡ Some y → y.thread.status ≡ Live Run → reads_clock_next w (with_frames r t frames) t ≡ true
    → reads_clock_next w (with_frames q t frames) t ≡ true
reads_still w r q now t x y frames tick at later running reads =
    let before = asks_in w r t x frames at (reads_runs w r t x frames at reads) in
    let after = asks_in w q t y frames later running in
    ap (λ o. option_map_or (λ (z : Request × Asking). reads_clock z.0) o false) (after ∙ ap (λ m. asking_in w m frames) (tick_memory r q now tick) ∙ sym before) ∙ reads

-- the entry of the local instructions in a hand and of that step ends with a step that reads the clock
pub reads_after : (p : Setting) (v : Scheduled State) (c t n : ℕ) (frames : List Frame) → HasHand p v c t n frames → ending v.state ≡ None
    → reads_clock_next p.world (with_frames v.state t frames) t ≡ true → reads_clock_after p v.state t (suc n) ≡ true
reads_after p v c t n frames h goes reads =
    ap (λ o. option_map_or (λ q. reads_clock_next p.world q t) o false) (ahead_steps p v c t n frames h goes) ∙ reads
