-- A program that ends in a number of steps of its main thread alone ends so in each history that has room for them.
use Rattle.std.proofs.Common.{◌≡◌, ◌⊎◌, inl, inr, ℕ, zero, suc, ◌+◌, ◌*◌, ◌<◌, ◌≤◌, Bool, true, false, not, List, [], ◌∷◌, length, slice_get, Option, Some, None, refl, ap, sym, ◌∙◌, cond, arith}
use Rattle.std.specs.Prelude.{is_none, is_some, if◌then◌else◌}
use Rattle.std.specs.Option.{option_map_or}
use Rattle.std.proofs.lemmas.Bool.{and_parts, cases_eq}
use Rattle.items.specs.First.{Each}
use Rattle.items.proofs.Binds.{some_is, bind_is}
use Rattle.history.specs.declared.entry.Entry.{Entry}
use Rattle.history.specs.Java.{is_java, java}
use Rattle.vthread_state.specs.declared.phase.Phase.TheVariants.{Run}
use Rattle.vthread_state.specs.declared.thread.Status.{Status}
use Rattle.vthread_state.specs.declared.thread.Status.TheVariants.{Live}
use Rattle.link_model.specs.World.{World}
use Rattle.state_model.specs.Frames.{Frame}
use Rattle.schedule_model.specs.Look.{absent}
use Rattle.schedule_model.specs.Run.{Scheduled, schedule_of}
use Rattle.ref_model.specs.declared.ending.Ending.{Ending}
use Rattle.ref_model.specs.declared.ending.Ending.TheVariants.{Ended, MainThrew, Exited, Stalled, Starved, Limit, Halted}
use Rattle.ref_model.specs.declared.ending.Which.TheVariants.{Files, FileSize, Threads, Events}
use Rattle.ref_model.specs.Setting.{Setting}
use Rattle.ref_model.specs.State.{JavaThread, State, frames_at, with_frames}
use Rattle.ref_model.specs.Ending.{ending}
use Rattle.ref_model.specs.Opening.{opening}
use Rattle.ref_model.specs.Alone.{alone, needs_others, stepped_alone}
use Rattle.ref_model.specs.Requests.{Request}
use Rattle.ref_model.specs.Asking.{Asking}
use Rattle.ref_model.specs.Resuming.{asking_at, asking_in, next_asks}
use Rattle.ref_model.specs.Run.{steps}
use Rattle.ref_model.specs.Step.{enabled, step, thread_step}
use Rattle.ref_model.specs.Starting.{may_create}
use Rattle.ref_model.specs.Looks.{is_create, is_stalled, lacks_threads_next, look_of, machine_from, spot_of}
use Rattle.ref_model.proofs.StateLaws.{frames_ending, runs}
use Rattle.schedule_soundness.specs.AloneLaws.{MainGoes, is_tick, steps_in}
use Rattle.schedule_soundness.specs.ClockLaws.{HaveReasons}
use Rattle.schedule_soundness.proofs.ClockAlone.{nothing_ticks_alone}
use Rattle.schedule_soundness.specs.Started.{OnlyMain, was_started}
use Rattle.schedule_soundness.proofs.AloneLaws.{main_runs_alone}
use Rattle.schedule_soundness.proofs.Creations.{has_room}
use Rattle.schedule_soundness.proofs.MainGoes.{main_goes_on}
use Rattle.machine.specs.Legal.{IsAccepted, IsCause, LacksThreads}
use Rattle.carrier.specs.Runs.{IsComplete, IsEndingOf, own, caused, limited}
use Rattle.carrier_turns.proofs.AheadLaws.{ahead_steps, runs_with}
use Rattle.carrier_turns.proofs.StallLaws.{enabled_goes}
use Rattle.carrier.proofs.StarveLaws.{starves_nobody}

-- ---- steps of the main thread alone

same_state : (x y : State) → ◌≡◌ {A = Option State} (Some x) (Some y) → x ≡ y
same_state x y e = cc

ends_once : (o : Option Ending) (e : Ending) → o ≡ None → o ≡ Some e → ⊥
ends_once o e x y = cc

over_alone : (p : Setting) (r : State) (e : Ending) → ending r ≡ Some e → stepped_alone p r ≡ Some r
over_alone p r e over = ap (λ o. if is_some o then Some r else if next_asks p.world r 0 needs_others then None else step p r 0 None) over

-- as many as there are, or fewer
alone_below : (p : Setting) (n j : ℕ) (q : State) → j ≤ n → alone p n ≡ Some q → (r : State) × (alone p j ≡ Some r)
alone_below p zero j q less e = (q, ap (alone p) (none_below j less) ∙ e)
  where
    none_below : (j : ℕ) → j ≤ 0 → j ≡ 0
    none_below j h = omega arith
alone_below p (suc n) j q less e =
    elim (cases_eq j (suc n)) [
      | inl same ↦ (q, ap (alone p) same ∙ e)
      | inr other ↦
          let before = some_is (alone p n) (stepped_alone p) q e in
          alone_below p n j before.0 (omega (arith, other)) before.1
    ]

-- or more, after the end
alone_past : (p : Setting) (n j : ℕ) (q : State) (e : Ending) → n ≤ j → alone p n ≡ Some q → ending q ≡ Some e → alone p j ≡ Some q
alone_past p n zero q e less lone over = ap (alone p) (none_below n less) ∙ lone
  where
    none_below : (n : ℕ) → n ≤ 0 → 0 ≡ n
    none_below n h = omega arith
alone_past p n (suc j) q e less lone over =
    elim (cases_eq n (suc j)) [
      | inl same ↦ ap (alone p) (sym same) ∙ lone
      | inr other ↦ bind_is (alone p j) (stepped_alone p) q (Some q) (alone_past p n j q e (omega (arith, other)) lone over) (over_alone p q e over)
    ]

alone_any : (p : Setting) (n : ℕ) (q : State) (e : Ending) → alone p n ≡ Some q → ending q ≡ Some e → (j : ℕ) → (r : State) × (alone p j ≡ Some r)
alone_any p n q e lone over j =
    elim (cases_le j n) [
      | inl below ↦ alone_below p n j q below lone
      | inr past ↦ (q, alone_past p n j q e past lone over)
    ]
  where
    cases_le : (a b : ℕ) → (a ≤ b) ⊎ (b ≤ a)
    cases_le zero b = inl (omega arith)
    cases_le (suc a) zero = inr (omega arith)
    cases_le (suc a) (suc b) = by (cases_le a b)
      where
        by : (a ≤ b) ⊎ (b ≤ a) → (suc a ≤ suc b) ⊎ (suc b ≤ suc a)
        by (inl h) = inl (omega arith)
        by (inr h) = inr (omega arith)

-- a state that goes on, where the next step alone is defined
step_is : (p : Setting) (r z : State) → ending r ≡ None → stepped_alone p r ≡ Some z → step p r 0 None ≡ Some z
step_is p r z goes e =
    by (next_asks p.world r 0 needs_others) (sym (ap (λ o. if is_some o then Some r else if next_asks p.world r 0 needs_others then None else step p r 0 None) goes) ∙ e)
  where
    by : (b : Bool) → (if b then None else step p r 0 None) ≡ Some z → step p r 0 None ≡ Some z
    by true e = absurd cc
    by false e = e

if_some : (b : Bool) (o : Option State) (x : State) → (if b then o else None) ≡ Some x → b ≡ true
if_some true o x e = refl
if_some false o x e = absurd cc

none_is : (o : Option Ending) → is_none o ≡ true → o ≡ None
none_is None e = refl
none_is (Some x) e = absurd cc

stepped_goes : (p : Setting) (r s : State) → step p r 0 None ≡ Some s → ending r ≡ None
stepped_goes p r s e = none_is (ending r) (and_parts (is_none (ending r)) _ (if_some (enabled r 0) (thread_step p.world r 0) s e)).0

-- what is reached by steps from where main alone comes, it comes to
alone_ahead : (p : Setting) (j k : ℕ) (r u : State) → ((i : ℕ) → (s : State) × (alone p i ≡ Some s)) → alone p j ≡ Some r → steps p k r 0 ≡ Some u
    → (i : ℕ) × (alone p i ≡ Some u)
alone_ahead p j zero r u any lone e = (j, lone ∙ e)
alone_ahead p j (suc k) r u any lone e =
    let s = some_is (steps p k r 0) (λ s. step p s 0 None) u e in
    let before = alone_ahead p j k r s.0 any lone s.1 in
    let after = any (suc before.0) in
    let next : stepped_alone p s.0 ≡ Some after.0 = sym (bind_is (alone p before.0) (stepped_alone p) s.0 (stepped_alone p s.0) before.1 refl) ∙ after.1 in
    let made = step_is p s.0 after.0 (stepped_goes p s.0 u s.2) next in
    (suc before.0, after.1 ∙ sym made ∙ s.2)

-- so the next step there makes no thread too many
room_ahead : (p : Setting) (i : ℕ) (u : State) → ((k : ℕ) → (s : State) × (alone p k ≡ Some s)) → alone p i ≡ Some u → ending u ≡ None
    → lacks_threads_next p.world u 0 ≡ false
room_ahead p i u any lone goes =
    let after = any (suc i) in
    let next : stepped_alone p u ≡ Some after.0 = sym (bind_is (alone p i) (stepped_alone p) u (stepped_alone p u) lone refl) ∙ after.1 in
    has_room p u after.0 0 (step_is p u after.0 goes next)

-- ---- whose next step would make a thread too many

no_true : (b : Bool) → b ≡ true → b ≡ false → ⊥
no_true b e f = absurd cc

asks_some : (o : Option (Request × Asking)) → option_map_or (λ (x : Request × Asking). is_create x.0) o false ≡ true → (x : Request × Asking) × (o ≡ Some x)
asks_some None e = absurd cc
asks_some (Some x) e = (x, refl)

-- it runs
lacks_runs : (w : World) (r : State) (t : ℕ) → lacks_threads_next w r t ≡ true → (frames : List Frame) × (frames_at r t ≡ Some frames)
lacks_runs w r t e =
    let asks = asks_some (asking_at w r t) (and_parts (not (may_create r)) (next_asks w r t is_create) e).1 in
    let at = some_is (frames_at r t) (asking_in w r.memory) asks.0 asks.1 in
    (at.0, at.1)

-- a thread that runs, where only main was started, is main
runs_main : (w : World) (r : State) (t : ℕ) (x : JavaThread) → OnlyMain (look_of w r) → slice_get r.threads t ≡ Some x → x.thread.status ≡ Live Run → t ≡ 0
runs_main w r t x only at runs =
    elim (cases_eq t 0) [
      | inl same ↦ same
      | inr other ↦
          let spot : was_started ((look_of w r).spot t) ≡ true =
          ap (λ (o : Option JavaThread). was_started (option_map_or (λ (y : JavaThread). spot_of y.thread.status) o absent)) at ∙ ap (λ (s : Status). was_started (spot_of s)) runs in
          absurd (no_true (was_started ((look_of w r).spot t)) spot (only t other))
    ]

-- ---- both

-- time never goes on
abbrev HasNoTicks : List Entry → Type 0
HasNoTicks history = Each (λ (e : Entry). is_tick e.what ≡ false) history

each_java : (es : List Entry) → Each (λ (e : Entry). is_tick e.what ≡ false) es → Each (λ (e : Entry). is_tick e.what ≡ false) (java es)
each_java [] all = tt
each_java (e ∷ es) all = by (is_java e.what) (each_java es all.1)
  where
    by : (b : Bool) → Each (λ (e : Entry). is_tick e.what ≡ false) (java es) → Each (λ (e : Entry). is_tick e.what ≡ false) (cond b (e ∷ java es) (java es))
    by true rest = (all.0, rest)
    by false rest = rest

lacks_not : (p : Setting) (first : State) (carriers : ℕ) (history : List Entry) (v : Scheduled State) (n : ℕ) (q : State) (e : Ending) → opening p ≡ Some first
    → schedule_of (machine_from p first) carriers history ≡ Some v → HasNoTicks history → alone p n ≡ Some q → ending q ≡ Some e → OnlyMain (look_of p.world v.state)
    → LacksThreads p v → ⊥
lacks_not p first carriers history v n q e begins runs_ timeless lone over only lacks =
    let any = alone_any p n q e lone over in
    let count = steps_in (java history) in
    let there = any count in
    let is = (main_runs_alone p first carriers history v there.0 begins runs_ (each_java history timeless) there.1).0 in
    let here : alone p count ≡ Some v.state = there.1 ∙ ap Some is in
    let mine = lacks_runs p.world (with_frames v.state lacks.thread lacks.frames) lacks.thread lacks.lacks in
    let running = runs_with v.state lacks.thread lacks.hand.thread lacks.frames mine.0 lacks.hand.at mine.1 in
    let main = runs_main p.world v.state lacks.thread lacks.hand.thread only lacks.hand.at running in
    let ahead = ahead_steps p v lacks.carrier lacks.thread lacks.local lacks.frames lacks.hand lacks.going in
    let u = with_frames v.state lacks.thread lacks.frames in
    let by_main : steps p lacks.local v.state 0 ≡ Some u = ap (steps p lacks.local v.state) (sym main) ∙ ahead in
    let reached = alone_ahead p count lacks.local v.state u any here by_main in
    let goes : ending u ≡ None = frames_ending v.state lacks.thread lacks.hand.thread lacks.frames lacks.hand.at ∙ lacks.going in
    no_true (lacks_threads_next p.world u 0) (ap (lacks_threads_next p.world u) (sym main) ∙ lacks.lacks) (room_ahead p reached.0 u any reached.1 goes)

-- A legal history whose run has ended, and which had room, has ended where the main thread alone does.
pub complete : (p : Setting) (first : State) (carriers : ℕ) (history : List Entry) (v : Scheduled State) (told : Ending) → IsAccepted p → 0 < carriers
    → opening p ≡ Some first → schedule_of (machine_from p first) carriers history ≡ Some v → HaveReasons p first carriers history → IsEndingOf p v (length history) told
    → IsComplete p v.state
complete p first carriers history v told accepted some begins runs_ reasons ends = λ n q e lone over room.
    let timeless = nothing_ticks_alone p first carriers history v n q e begins accepted.unpinned runs_ reasons lone over in
    by n q e lone over room timeless (main_goes_on p first carriers history v n q e begins accepted.unpinned some runs_ (each_java history timeless) lone over)
  where
    by : (n : ℕ) (q : State) (e : Ending) → alone p n ≡ Some q → ending q ≡ Some e → 3 * n + 3 ≤ p.limits.events → HasNoTicks history
        → (v.state ≡ q) ⊎ MainGoes p history n v.state → v.state ≡ q
    by n q e lone over room timeless (inl same) = same
    by n q e lone over room timeless (inr goes) = absurd (never ends)
      where
        cause : (told : Ending) → IsCause p v told → (told ≡ Halted → ⊥) → ⊥
        cause Ended is works = is
        cause MainThrew is works = is
        cause (Exited status) is works = is
        cause Stalled is works = no_true (is_stalled p.world v.state) is (enabled_goes p.world v.state 0 goes.may)
        cause Starved is works = starves_nobody p first v (record { begins = begins; plain = accepted.unpinned; carriers = carriers; some = some; history = history; runs = runs_ }) goes.only goes.may is
        cause (Limit Files k) is works = is
        cause (Limit FileSize k) is works = is
        cause (Limit Threads k) is works = lacks_not p first carriers history v n q e begins runs_ timeless lone over goes.only is.1
        cause (Limit Events k) is works = is
        cause Halted is works = works refl

        never : IsEndingOf p v (length history) told → ⊥
        never (own is) = ends_once (ending v.state) told goes.goes is
        never (caused is works) = cause told is works
        never (limited none is few) = let long = goes.few in omega arith
