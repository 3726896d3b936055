-- Steps of one thread, one after the other, as the code makes them.
use Rattle.std.proofs.Common.{◌≡◌, ◌<◌, ◌≤◌, ◌+◌, ℕ, zero, suc, Bool, true, false, List, Option, Some, None, Result, Ok, Err, OnOk, refl, ap, sym, subst, ◌∙◌, arith}
use Rattle.std.specs.Prelude.{map, nat_lt, slice_get, if◌then◌else◌}
use Rattle.std.proofs.lemmas.Bool.{lt-ltb}
use Rattle.items.specs.Options.{◌>>=◌}
use Rattle.items.proofs.Binds.{bind_is}
use Rattle.vthread_state.specs.declared.thread.Status.{Status}
use Rattle.link_model.specs.World.{World}
use Rattle.state_model.specs.Frames.{Frame}
use Rattle.frame_soundness.specs.Typed.{Typed}
use Rattle.frame_soundness.specs.TypedStates.{IsTypedState}
use Rattle.step_soundness.specs.Resolutions.{IsStepResolution}
use Rattle.step_soundness.specs.StepLaws.{FramesKeep, StepKeeps, TimeKeeps}
use Rattle.ref_model.specs.Ending.{ending}
use Rattle.ref_model.specs.LocalRows.{rows}
use Rattle.ref_model.specs.Setting.{Setting}
use Rattle.ref_model.specs.State.{JavaThread, State, frames_at, with_frames}
use Rattle.ref_model.specs.StepLaws.{LocalSteps}
use Rattle.ref_model.specs.Waiting.{at_time, thread_at_time}
use Rattle.ref_model.proofs.StateLaws.{frames_is}
use Rattle.thread_steps.specs.declared.parts.Parts.{Parts}
use Rattle.thread_steps.specs.States as stages
use Rattle.ref_run.specs.declared.fault.Fault.{Fault}
use Rattle.ref_run.specs.declared.fault.Fault.TheVariants as faults
use Rattle.ref_run.specs.declared.state.RefState.{RefState}
use Rattle.ref_run.specs.GoingOn.{Comes}
use Rattle.ref_run.specs.States.{state_of}
use Rattle.operand_soundness.specs.Ready.{IsReady}
use Rattle.ref_run.specs.Steps.{IsAdvance, is_running_status, made_entry, made_steps, stepped}
use Rattle.ref_run.specs.Taking.{IsPut, IsTaken}
use Rattle.ref_run.proofs.PhaseLaws.{frames_run, run_typed}
use Rattle.ref_run.proofs.ReplayLaws.{made_more, none_made, step_is, steps_are}
use Rattle.ref_run.proofs.StageLaws.{stage_of}
use Rattle.ref_run.proofs.StepLaws.{settled, taken_frames}

-- ---- the typing

-- a setting with this world
abbrev some_setting : World → Setting
some_setting w = record { world = w; main = 0; limits = record { heap_cells = 0; threads = 0; events = 0 } }

pub step_typed : (w : World) (r : State) (t : ℕ) (pick : Option ℕ) (result : Result (Unit {0}) Fault) (a : RefState) → StepKeeps → IsReady w → IsTypedState w r
    → Comes (stepped w r t pick) result a → OnOk result (IsTypedState w (state_of a))
step_typed w r t pick (Ok u) a keeps ready typed made =
    let lies : IsStepResolution w r t = record { top = λ f below at. ready.named r.memory f; runs = ready.runs } in
    keeps (some_setting w) r (state_of a) t pick ready.linked typed lies (step_is (some_setting w) r t pick ∙ made)
step_typed w r t pick (Err e) a keeps ready typed made = tt

pub time_typed : (w : World) (r : State) (now : ℕ) (result : Result (Unit {0}) Fault) (a : RefState) → TimeKeeps → IsTypedState w r → Comes (at_time r now) result a
    → OnOk result (IsTypedState w (state_of a))
time_typed w r now (Ok u) a keeps typed made = keeps w r (state_of a) now typed made
time_typed w r now (Err e) a keeps typed made = tt

-- ---- local instructions

-- the state in which a thread that runs has other frames
pub ahead_state : (a mid new : RefState) (t : ℕ) (frames after : List Frame) (taken : IsTaken t a frames mid) → IsPut t mid after new
    → state_of new ≡ with_frames (state_of a) t after
ahead_state a mid new t frames after taken put =
    settled a mid new t frames after mid.memory taken put
    ∙ ap (λ (p : Parts). stages.state_of (stage_of (state_of a) t taken.thread taken.at) p after) taken.memory
    ∙ sym (frames_is (state_of a) t taken.thread after taken.at)

pub ahead_made : (w : World) (a mid new : RefState) (t n : ℕ) (x : JavaThread) (status : Status) (frames after : List Frame) → LocalSteps → IsTaken t a frames mid → IsPut t mid after new
    → slice_get (state_of a).threads t ≡ Some x → x.thread.status ≡ status → is_running_status status ≡ true → ending (state_of a) ≡ None → rows w n frames ≡ Some after
    → made_steps w n (state_of a) t ≡ Some (state_of new)
ahead_made w a mid new t n x status frames after local taken put at is runs going ran =
    let same : taken.thread ≡ x = cc (taken.at, at) in
    let before : frames_at (state_of a) t ≡ Some frames =
    frames_run (state_of a) t x status at is runs ∙ ap (λ fs. Some fs) (ap (λ (y : JavaThread). y.frames) (sym same) ∙ sym taken.frames_are) in
    sym (steps_are (some_setting w) (state_of a) t n) ∙ local (some_setting w) (state_of a) t n frames after before going ran
    ∙ ap (λ r. Some r) (sym (ahead_state a mid new t frames after taken put))

pub ahead_typed : (w : World) (a mid new : RefState) (t : ℕ) (frames after : List Frame) → FramesKeep → IsTypedState w (state_of a) → IsTaken t a frames mid → IsPut t mid after new
    → Typed w after → IsTypedState w (state_of new)
ahead_typed w a mid new t frames after keep typed taken put fits =
    subst (IsTypedState w) (sym (ahead_state a mid new t frames after taken put)) (keep w (state_of a) t after typed fits)

-- the frames that it has keep to the typing
pub taken_typed : (w : World) (a mid : RefState) (t : ℕ) (x : JavaThread) (status : Status) (frames : List Frame) → IsTypedState w (state_of a) → IsTaken t a frames mid
    → slice_get (state_of a).threads t ≡ Some x → x.thread.status ≡ status → is_running_status status ≡ true → Typed w frames
taken_typed w a mid t x status frames typed taken at is runs = run_typed w (state_of a) t x status typed at is runs frames (taken_frames a mid t frames taken)

-- ---- at least one step

same_inside : (r s : State) → Some r ≡ Some s → s ≡ r
same_inside r s e = cc

pub one_step : (w : World) (r s : State) (t most n : ℕ) (a : RefState) → 0 < most → (0 < n → ⊥) → made_steps w n r t ≡ Some s → stepped w s t None ≡ Some (state_of a)
    → (0 < 1) × (1 ≤ most) × (made_steps w 1 r t ≡ Some (state_of a))
one_step w r s t most n a some none made step =
    let zero_made : n ≡ 0 = omega arith in
    let here : s ≡ r = same_inside r s (ap (λ k. made_steps w k r t) (sym zero_made) ∙ made) in
    (omega arith, omega arith, ap (λ k. stepped w k t None) (sym here) ∙ step)

pub no_first : (w : World) (r s : State) (t most n : ℕ) (fault : Fault) (a : RefState) → (0 < n → ⊥) → made_steps w n r t ≡ Some s → Comes (stepped w s t None) (Err fault) a
    → IsAdvance w r t most (Err fault) a
no_first w r s t most n faults.NoStep a none made stops =
    let zero_made : n ≡ 0 = omega arith in
    let here : s ≡ r = same_inside r s (ap (λ k. made_steps w k r t) (sym zero_made) ∙ made) in
    ap (λ k. stepped w k t None) (sym here) ∙ stops
no_first w r s t most n faults.NoMemory a none made stops = tt

-- ---- so many steps

pub more_steps : (w : World) (r q : State) (t made steps : ℕ) (a : RefState) → made_steps w made r t ≡ Some q → made_steps w steps q t ≡ Some (state_of a)
    → made_steps w (made + steps) r t ≡ Some (state_of a)
more_steps w r q t made steps a before after =
    let same : made + steps ≡ steps + made = omega arith in
    ap (λ n. made_steps w n r t) same ∙ made_more w r q t made steps before ∙ after

pub steps_stop : (w : World) (r q : State) (t made count most : ℕ) (fault : Fault) (a b : RefState) → made < count → made_steps w made r t ≡ Some q → IsAdvance w q t most (Err fault) a
    → Comes (made_steps w count r t) (Err fault) b
steps_stop w r q t made count most faults.NoStep a b within before stops = none_made w r q t made count before stops within
steps_stop w r q t made count most faults.NoMemory a b within before stops = tt

-- ---- an entry

pub entry_goes : (w : World) (r : State) (t steps before : ℕ) (pick : Option ℕ) (result : Result (Unit {0}) Fault) (mid a : RefState) → steps ≡ suc before
    → made_steps w before r t ≡ Some (state_of mid) → Comes (stepped w (state_of mid) t pick) result a → Comes (made_entry w r t steps pick) result a
entry_goes w r t steps before pick result mid a is made step =
    subst (λ o. Comes o result a)
    (sym (ap (λ n. made_entry w r t n pick) is ∙ bind_is (made_steps w before r t) (λ q. stepped w q t pick) (state_of mid) (stepped w (state_of mid) t pick) made refl)) step

pub entry_stops : (w : World) (r : State) (t steps before : ℕ) (pick : Option ℕ) (fault : Fault) (a b : RefState) → steps ≡ suc before → Comes (made_steps w before r t) (Err fault) a
    → Comes (made_entry w r t steps pick) (Err fault) b
entry_stops w r t steps before pick faults.NoStep a b is stops =
    ap (λ n. made_entry w r t n pick) is ∙ ap (λ o. o >>= λ q. stepped w q t pick) stops
entry_stops w r t steps before pick faults.NoMemory a b is stops = tt

-- an entry that picks no thread is so many steps
pub entry_unpicked : (w : World) (r : State) (t steps : ℕ) → 0 < steps → made_entry w r t steps None ≡ made_steps w steps r t
entry_unpicked w r t zero some = absurd (omega arith)
entry_unpicked w r t (suc n) some = refl

-- time goes on
pub tick_made : (r s : State) (now : ℕ) → r.now < now → s ≡ record r { now = now; threads = map (thread_at_time now) r.threads } → at_time r now ≡ Some s
tick_made r s now later is = by (nat_lt r.now now) (lt-ltb r.now now later)
  where
    by : (b : Bool) → b ≡ true → (if b then Some (record r { now = now; threads = map (thread_at_time now) r.threads }) else None) ≡ Some s
    by true e = ap (λ (q : State). Some q) (sym is)
    by false e = absurd cc
