-- Steps of states that keep to the typing.
use Rattle.std.proofs.Common.{◌≡◌, ℕ, Bool, true, false, List, [], ◌∷◌, ◌++◌, length, Option, Some, None, refl, ap, sym, subst, ◌∙◌}
use Rattle.std.specs.Prelude.{slice_get, slice_set, ◌==◌, ◌||◌, if◌then◌else◌}
use Rattle.std.specs.Option.{option_map_or}
use Rattle.std.proofs.lemmas.List.{set-set}
use Rattle.items.specs.Options.{◌>>=◌}
use Rattle.items.proofs.Binds.{some_is, bind_is}
use Rattle.opcodes.specs.declared.op.ValueKind.{ValueKind}
use Rattle.instruction_rows.specs.Rows.{Row, local, constant, wide_constant, returns, invoke, static, event, refused}
use Rattle.instruction_rows.specs.SlotEffect.{divides_by_zero}
use Rattle.vthread_state.specs.declared.phase.Phase.{Phase}
use Rattle.vthread_state.specs.declared.phase.Phase.TheVariants.{Run, Throwing, Entering, Waiting, Reenter, Parked, Asleep, Joining}
use Rattle.vthread_state.specs.declared.phase.Wake.{Wake}
use Rattle.vthread_state.specs.declared.phase.Wake.TheVariants.{Notified, TimedOut, Interrupted}
use Rattle.vthread_state.specs.declared.thread.Status.{Status}
use Rattle.vthread_state.specs.declared.thread.Status.TheVariants.{New, Live, Done}
use Rattle.link_model.specs.World.{World}
use Rattle.verify_types.specs.Environment.{Instruction, Handler}
use Rattle.verify_types.specs.Effects.{row_of}
use Rattle.verify_types.specs.Typing.{AreTyped}
use Rattle.state_model.specs.Frames.{Frame}
use Rattle.ref_model.specs.declared.exception.Exception.TheVariants.{ArithmeticException, IllegalMonitorStateException}
use Rattle.ref_model.specs.Setting.{Setting}
use Rattle.ref_model.specs.Memory.{Memory}
use Rattle.ref_model.specs.State.{JavaThread, State, with_memory, with_frames, with_status, with_permit, with_owner, is_interrupted, running_frames, frames_at}
use Rattle.ref_model.specs.Heap.{class_at, units_at}
use Rattle.ref_model.specs.Classes.{class_name}
use Rattle.ref_model.specs.Texts.{text_bytes}
use Rattle.ref_model.specs.Fetch.{fetched}
use Rattle.ref_model.specs.Frames.{contents, behind, is_root, returned}
use Rattle.ref_model.specs.Monitors.{owns, with_entry, with_exit, entered_once, left_once, is_synchronized_frame, frame_monitor}
use Rattle.ref_model.specs.LocalRows.{row}
use Rattle.ref_model.specs.Requests.{Request}
use Rattle.ref_model.specs.Effects.{Effect, done, invokes, throws, throws_object, asks}
use Rattle.ref_model.specs.Asking.{Asking, with_run, thrown_interrupted}
use Rattle.ref_model.specs.Requesting.{asked_with}
use Rattle.ref_model.specs.Resuming.{asking_by, asking_in, asking_at, finished_asking, resumed, resumed_or_thrown, park_over, is_first_entry, entered_monitor, waited, reentered}
use Rattle.ref_model.specs.Throwing.{throwing, raised, exception_made, handler_of, at_handler, finished, uncaught, uncaught_line, frame_dropped, thrown_below, frame_with_monitor_left, frame_left, handled as handled_state, throwing_step}
use Rattle.ref_model.specs.Step.{row_effect, after_effect, root_left, frame_returned, monitor_returned, return_event, row_event, row_or_event, phase_step, status_step, thread_step, picking_step, enabled, step}
use Rattle.ref_model.proofs.StateLaws.{get_set, frames_is, frames_there}
use Rattle.frame_soundness.specs.Typed.{Stands, IsUnder, Typed, Thrown}
use Rattle.frame_soundness.specs.TypedStates.{AreOfPhase, AreOfStatus, IsTypedState}
use Rattle.frame_soundness.specs.LocalLaws.{NamesStatic}
use Rattle.frame_soundness.specs.ThrowLaws.{OfFrames}
use Rattle.frame_soundness.specs.StateKinds.{MemoryFits}
use Rattle.frame_soundness.specs.StepKinds.{IsLinkedWorld, IsResult, IsAsked}
use Rattle.frame_soundness.specs.EnterLaws.{IsCallResult}
use Rattle.frame_soundness.proofs.FetchLaws.{fetched_is}
use Rattle.frame_soundness.proofs.KeepLaws.{row_keeps}
use Rattle.frame_soundness.proofs.Exceptions.{thrown, left, handled}
use Rattle.frame_soundness.proofs.Raises.{raises_keep, exception_fits}
use Rattle.frame_soundness.proofs.ReturnLaws.{inner_goes}
use Rattle.frame_soundness.proofs.ThreadLaws.{memory_keeps, thread_changed, thread_set, frames_keep, thrown_keep, throwing_keeps, finished_keeps}
use Rattle.frame_soundness.proofs.EventProofs.{events_go_on}
use Rattle.step_soundness.specs.Resolutions.{IsRowResolution, IsFrameResolution, RunsFit, instruction_frames, instruction_frames_at, IsStepResolution}
use Rattle.step_soundness.proofs.Invocations.{invocations_go_on}
use Rattle.step_soundness.proofs.StateChanges.{frames_stay, status_keeps as status_changes, thrown_interrupted_keeps, owner_keeps}
use Rattle.step_soundness.proofs.Starts.{either}
use Rattle.step_soundness.proofs.Requests.{known_state, asked_keeps, picked_keeps, finished_keeps_on}

-- the thread that steps has these frames
record Has (r : State) (t : ℕ) (status : Status) (frames : List Frame) : Type 0 where
  pub thread : JavaThread
  pub at : slice_get r.threads t ≡ Some thread
  pub status_is : thread.thread.status ≡ status
  pub frames_is : thread.frames ≡ frames

-- what holds of these frames holds of the thread's
of_frames : (r : State) (t : ℕ) (status : Status) (frames : List Frame) (Holds : List Frame → Type 0) → Has r t status frames → Holds frames
    → OfFrames r t Holds
of_frames r t status frames Holds h holds =
    λ x at. subst Holds (sym h.frames_is ∙ ap (λ (y : JavaThread). y.frames) (one (slice_get r.threads t) h.thread x h.at at)) holds
  where
    one : (m : Option JavaThread) (a b : JavaThread) → m ≡ Some a → m ≡ Some b → a ≡ b
    one m a b x y = cc

-- ---- effects

-- an effect of an instruction, of whichever kind
effect_keeps : (w : World) (r q : State) (t next : ℕ) (status : Status) (f : Frame) (below : List Frame) (effect : Effect) → AreTyped w → RunsFit w
    → IsTypedState w r → Has r t status (f ∷ below) → Typed w (f ∷ below) → IsCallResult w f below next effect
    → after_effect w r t next f below effect ≡ Some q → IsTypedState w q
effect_keeps w r q t next status f below (done memory stack) world runs typed h top goes e =
    let s = with_memory r memory in
    let after = with_frames s t (goes.frame ∷ below) in
    let made : after_effect w r t next f below (done memory stack) ≡ Some after =
    bind_is (behind f next stack) (λ g. Some (with_frames s t (g ∷ below))) goes.frame (Some after) goes.is refl in
    known_state w after q (sym made ∙ e) (frames_keep w s t (goes.frame ∷ below) (memory_keeps w r memory typed goes.values) goes.typed)
effect_keeps w r q t next status f below (invokes g stack) world runs typed h top goes e =
    known_state w (with_frames r t (g ∷ record f { stack = stack } ∷ below)) q e
    (frames_keep w r t (g ∷ record f { stack = stack } ∷ below) typed goes)
effect_keeps w r q t next status f below (throws x) world runs typed h top goes e =
    raises_keep w r q t x typed (of_frames r t status (f ∷ below) (Thrown w) h (thrown w (f ∷ below) top)) e
effect_keeps w r q t next status f below (throws_object o) world runs typed h top goes e =
    known_state w (throwing r t o) q e
    (throwing_keeps w r t o typed (of_frames r t status (f ∷ below) (Thrown w) h (thrown w (f ∷ below) top)))
effect_keeps w r q t next status f below (asks request stack) world runs typed h top goes e =
    asked_keeps w r q t (record { frame = f; below = below; next = next; stack = stack }) request world runs typed
    (of_frames r t status (f ∷ below) (Typed w) h top) goes e

-- an event never invokes
as_call : (w : World) (f : Frame) (below : List Frame) (next : ℕ) (effect : Effect) → IsResult w f below next effect
    → IsCallResult w f below next effect
as_call w f below next (done q stack) is = is
as_call w f below next (invokes g stack) is = absurd is
as_call w f below next (throws x) is = tt
as_call w f below next (throws_object o) is = tt
as_call w f below next (asks q stack) is = is

-- only a division by 0 is an effect of a local row
divided : (w : World) (f : Frame) (below : List Frame) (next : ℕ) (effect : Effect) (b : Bool)
    → (if b then Some (throws ArithmeticException) else None) ≡ Some effect → IsCallResult w f below next effect
divided w f below next effect true e = subst (IsCallResult w f below next) (inside (throws ArithmeticException) effect e) tt
  where
    inside : (a b : Effect) → ◌≡◌ {A = Option Effect} (Some a) (Some b) → a ≡ b
    inside a b same = cc
divided w f below next effect false e = absurd cc

-- ---- a return from a root frame

-- the frame below a class initializer stands
root_stands : (w : World) (f g : Frame) (rest : List Frame) → Typed w (f ∷ g ∷ rest) → is_root w f (g ∷ rest) ≡ true → Typed w (g ∷ rest)
root_stands w f g rest top root =
    let here : Stands w g = subst (IsUnder w f.method g) root top.1.0 in (here, top.1.1)

root_keeps : (w : World) (r q : State) (t : ℕ) (f : Frame) (below : List Frame) → IsTypedState w r → Typed w (f ∷ below)
    → is_root w f below ≡ true → Some (root_left r t below) ≡ Some q → IsTypedState w q
root_keeps w r q t f [] typed top root e = known_state w (finished r t) q e (finished_keeps w r t typed)
root_keeps w r q t f (g ∷ rest) typed top root e =
    known_state w (with_frames r t (g ∷ rest)) q e (frames_keep w r t (g ∷ rest) typed (root_stands w f g rest top root))

-- a return that isn't local, from a frame that holds no monitor any more
frame_return_keeps : (w : World) (r q : State) (t : ℕ) (kind : Option ValueKind) (f : Frame) (below : List Frame) → AreTyped w → IsTypedState w r
    → (top : Typed w (f ∷ below)) → row_of top.0.at.place.instruction ≡ returns kind → (b : Bool) → is_root w f below ≡ b
    → (if b then Some (root_left r t below) else (returned w kind f below >>= λ frames. Some (with_frames r t frames))) ≡ Some q → IsTypedState w q
frame_return_keeps w r q t kind f below world typed top known true root e = root_keeps w r q t f below typed top root e
frame_return_keeps w r q t kind f below world typed top known false root e =
    let goes = inner_goes w f below kind world top known root in
    let after = with_frames r t goes.frames in
    let made : (returned w kind f below >>= λ frames. Some (with_frames r t frames)) ≡ Some after =
    bind_is (returned w kind f below) (λ frames. Some (with_frames r t frames)) goes.frames (Some after) goes.is refl in
    known_state w after q (sym made ∙ e) (frames_keep w r t goes.frames typed goes.typed)

return_keeps : (w : World) (r q : State) (t : ℕ) (status : Status) (kind : Option ValueKind) (f : Frame) (below : List Frame) → AreTyped w
    → IsTypedState w r → Has r t status (f ∷ below) → (top : Typed w (f ∷ below)) → row_of top.0.at.place.instruction ≡ returns kind
    → return_event w r t kind f below ≡ Some q → IsTypedState w q
return_keeps w r q t status kind f below world typed h top known e =
    either (is_synchronized_frame w f) (frame_monitor w f >>= monitor_returned w r t kind f below) (frame_returned w r t kind f below) q
    (λ e. let o = some_is (frame_monitor w f) (monitor_returned w r t kind f below) q e in
    either (owns r t o.0) (frame_returned w (with_exit r o.0) t kind f below) (raised w r t IllegalMonitorStateException) q
    (λ e. frame_return_keeps w (with_exit r o.0) q t kind f below world (owner_keeps w r o.0 (left_once (r.owners o.0)) typed) top known
    (is_root w f below) refl e)
    (λ e. raises_keep w r q t IllegalMonitorStateException typed (of_frames r t status (f ∷ below) (Thrown w) h (thrown w (f ∷ below) top)) e) o.2)
    (λ e. frame_return_keeps w r q t kind f below world typed top known (is_root w f below) refl e) e

-- ---- the event at the top frame's pc

-- what an instruction does, apart from what becomes of the state
effect_fits : (w : World) (r : Memory) (f : Frame) (below : List Frame) → IsLinkedWorld w → MemoryFits w r → (top : Typed w (f ∷ below)) → (act : Row)
    → row_of top.0.at.place.instruction ≡ act → IsRowResolution w top.0.at.place.instruction.resolution act r f.stack → (effect : Effect)
    → row_effect w top.0.at.place.instruction act r (length (f ∷ below)) f ≡ Some effect
    → IsCallResult w f below top.0.at.place.instruction.instr.next effect
effect_fits w r f below linked fits top (local act) known lies effect e =
    divided w f below top.0.at.place.instruction.instr.next effect (divides_by_zero act (contents f)) e
effect_fits w r f below linked fits top (constant index) known lies effect e = absurd cc
effect_fits w r f below linked fits top (wide_constant index) known lies effect e = absurd cc
effect_fits w r f below linked fits top (returns kind) known lies effect e = absurd cc
effect_fits w r f below linked fits top (invoke invocation index) known lies effect e =
    invocations_go_on w f below invocation index (length (f ∷ below)) r effect linked.typed fits top known lies e
effect_fits w r f below linked fits top (event ev) known lies effect e =
    as_call w f below top.0.at.place.instruction.instr.next effect (events_go_on w f below ev r effect linked fits top known lies e)
effect_fits w r f below linked fits top refused known lies effect e = absurd cc

by_effect : (w : World) (r q : State) (t : ℕ) (status : Status) (f : Frame) (below : List Frame) → IsLinkedWorld w → RunsFit w → IsTypedState w r
    → Has r t status (f ∷ below) → (top : Typed w (f ∷ below)) → (act : Row) → row_of top.0.at.place.instruction ≡ act
    → IsRowResolution w top.0.at.place.instruction.resolution act r.memory f.stack
    → (row_effect w top.0.at.place.instruction act r.memory (length (f ∷ below)) f >>= after_effect w r t top.0.at.place.instruction.instr.next f below) ≡ Some q
    → IsTypedState w q
by_effect w r q t status f below linked runs typed h top act known lies e =
    let i = top.0.at.place.instruction in
    let x = some_is (row_effect w i act r.memory (length (f ∷ below)) f) (after_effect w r t i.instr.next f below) q e in
    effect_keeps w r q t i.instr.next status f below x.0 linked.typed runs typed h top
    (effect_fits w r.memory f below linked typed.values top act known lies x.0 x.1) x.2

row_event_keeps : (w : World) (r q : State) (t : ℕ) (status : Status) (f : Frame) (below : List Frame) → IsLinkedWorld w → RunsFit w
    → IsTypedState w r → Has r t status (f ∷ below) → (top : Typed w (f ∷ below)) → (act : Row) → row_of top.0.at.place.instruction ≡ act
    → IsRowResolution w top.0.at.place.instruction.resolution act r.memory f.stack
    → row_event w top.0.at.place.instruction act r t f below ≡ Some q → IsTypedState w q
row_event_keeps w r q t status f below linked runs typed h top (returns kind) known lies e =
    return_keeps w r q t status kind f below linked.typed typed h top known e
row_event_keeps w r q t status f below linked runs typed h top act known lies e =
    by_effect w r q t status f below linked runs typed h top act known lies e

-- what it asks, with the frame that goes on with what comes back
asking_fits : (w : World) (r : Memory) (f : Frame) (below : List Frame) → IsLinkedWorld w → MemoryFits w r → (top : Typed w (f ∷ below))
    → IsFrameResolution w r f → (x : Request × Asking) → asking_in w r (f ∷ below) ≡ Some x → IsAsked w x.1.frame x.1.below x.1.next x.0 x.1.stack
asking_fits w r f below linked fits top lies x e =
    let i = top.0.at.place.instruction in
    let found = fetched_is w f top.0.at in
    let j = some_is (fetched w f) (λ i. row_effect w i (row_of i) r (length (f ∷ below)) f >>= asking_by f below i.instr.next) x e in
    let same : j.0 ≡ i = one (fetched w f) j.0 i j.1 found in
    let here : (row_effect w i (row_of i) r (length (f ∷ below)) f >>= asking_by f below i.instr.next) ≡ Some x =
    subst (λ (k : Instruction). (row_effect w k (row_of k) r (length (f ∷ below)) f >>= asking_by f below k.instr.next) ≡ Some x) same j.2 in
    let effect = some_is (row_effect w i (row_of i) r (length (f ∷ below)) f) (asking_by f below i.instr.next) x here in
    by effect.0 (effect_fits w r f below linked fits top (row_of i) refl (lies i found) effect.0 effect.1) effect.2
  where
    one : (m : Option Instruction) (a b : Instruction) → m ≡ Some a → m ≡ Some b → a ≡ b
    one m a b x y = cc

    same_asking : (a b : Request × Asking) → ◌≡◌ {A = Option (Request × Asking)} (Some a) (Some b) → a ≡ b
    same_asking a b e = cc

    by : (effect : Effect) → IsCallResult w f below top.0.at.place.instruction.instr.next effect
        → asking_by f below top.0.at.place.instruction.instr.next effect ≡ Some x → IsAsked w x.1.frame x.1.below x.1.next x.0 x.1.stack
    by (asks q stack) fits e =
        subst (λ (y : Request × Asking). IsAsked w y.1.frame y.1.below y.1.next y.0 y.1.stack)
        (same_asking (q, record { frame = f; below = below; next = top.0.at.place.instruction.instr.next; stack = stack }) x e) fits
    by (done m stack) fits e = absurd cc
    by (invokes g stack) fits e = absurd cc
    by (throws thrown) fits e = absurd cc
    by (throws_object o) fits e = absurd cc

-- ---- a thread that runs

-- what the step asks of a local instruction
names_static : (w : World) (r : Memory) (f : Frame) → IsFrameResolution w r f → NamesStatic w f
names_static w r f lies i index m at known named =
    let here : IsRowResolution w i.resolution (invoke static index) r f.stack = subst (λ (x : Row). IsRowResolution w i.resolution x r f.stack) known (lies i at) in
    (here m named).flag

run_keeps : (w : World) (r q : State) (t : ℕ) (status : Status) (f : Frame) (below : List Frame) → IsLinkedWorld w → RunsFit w → IsTypedState w r
    → Has r t status (f ∷ below) → Typed w (f ∷ below) → IsFrameResolution w r.memory f → (after : Option (List Frame)) → row w (f ∷ below) ≡ after
    → row_or_event w r t (f ∷ below) after ≡ Some q → IsTypedState w q
run_keeps w r q t status f below linked runs typed h top lies (Some after) moves e =
    known_state w (with_frames r t after) q e
    (frames_keep w r t after typed (row_keeps w f below after linked.typed (names_static w r.memory f lies) top moves))
run_keeps w r q t status f below linked runs typed h top lies None moves e =
    let i = top.0.at.place.instruction in
    let found = fetched_is w f top.0.at in
    let x = some_is (fetched w f) (λ i. row_event w i (row_of i) r t f below) q e in
    let same : x.0 ≡ i = one (fetched w f) x.0 i x.1 found in
    row_event_keeps w r q t status f below linked runs typed h top (row_of i) refl (lies i found)
    (subst (λ (j : Instruction). row_event w j (row_of j) r t f below ≡ Some q) same x.2)
  where
    one : (m : Option Instruction) (a b : Instruction) → m ≡ Some a → m ≡ Some b → a ≡ b
    one m a b x y = cc

-- ---- a thread that throws

-- nothing caught it
uncaught_keeps : (w : World) (r q : State) (t class : ℕ) → IsTypedState w r → uncaught w r t class ≡ Some q → IsTypedState w q
uncaught_keeps w r q t class typed e =
    let thread = some_is (slice_get r.threads t) (λ thread. units_at r.memory thread.thread.name >>= λ name. Some (finished (record r {
      memory = record r.memory { err = r.memory.err ++ text_bytes (uncaught_line name (class_name w class)) };
      main_threw = r.main_threw || t == 0;
    }) t)) q e in
    let name = some_is (units_at r.memory thread.0.thread.name) (λ name. Some (finished (record r {
      memory = record r.memory { err = r.memory.err ++ text_bytes (uncaught_line name (class_name w class)) };
      main_threw = r.main_threw || t == 0;
    }) t)) q thread.2 in
    let told : State = record r {
      memory = record r.memory { err = r.memory.err ++ text_bytes (uncaught_line name.0 (class_name w class)) };
      main_threw = r.main_threw || t == 0;
    } in
    known_state w (finished told t) q name.2 (finished_keeps w told t
    (record { values = record { heap = typed.values.heap; statics = typed.values.statics }; threads = typed.threads }))

-- the frame is left, or all frames are
dropped_keeps : (w : World) (r q : State) (t o class : ℕ) (f : Frame) (below : List Frame) → IsTypedState w r
    → Has r t (Live (Throwing o)) (f ∷ below) → Thrown w (f ∷ below) → (b : Bool) → is_root w f below ≡ b
    → (if b then uncaught w r t class else Some (with_frames r t below)) ≡ Some q → IsTypedState w q
dropped_keeps w r q t o class f below typed h top true root e = uncaught_keeps w r q t class typed e
dropped_keeps w r q t o class f below typed h top false root e =
    known_state w (with_frames r t below) q e
    (thrown_keep w r t o h.thread below typed h.at h.status_is (left w f below top root))

-- another exception takes the place of this one
below_keeps : (w : World) (r q : State) (t o : ℕ) (f : Frame) (below : List Frame) (made : Memory × ℕ) → IsTypedState w r → MemoryFits w made.0
    → Has r t (Live (Throwing o)) (f ∷ below) → Thrown w (f ∷ below) → (b : Bool) → is_root w f below ≡ b
    → (if b then (class_at w made.0 made.1 >>= λ class. uncaught w (with_memory r made.0) t class)
    else Some (throwing (with_frames (with_memory r made.0) t below) t made.1)) ≡ Some q → IsTypedState w q
below_keeps w r q t o f below made typed fits h top true root e =
    let class = some_is (class_at w made.0 made.1) (λ class. uncaught w (with_memory r made.0) t class) q e in
    uncaught_keeps w (with_memory r made.0) q t class.0 (memory_keeps w r made.0 typed fits) class.2
below_keeps w r q t o f below made typed fits h top false root e =
    let s = with_memory r made.0 in
    let good = left w f below top root in
    let mid : IsTypedState w (with_frames s t below) =
    thrown_keep w s t o h.thread below (memory_keeps w r made.0 typed fits) h.at h.status_is good in
    known_state w (throwing (with_frames s t below) t made.1) q e (throwing_keeps w (with_frames s t below) t made.1 mid (λ x at.
    subst (Thrown w) (frames_of x at) good))
  where
    last : JavaThread
    last = record h.thread { frames = below }

    one : (m : Option JavaThread) (a b : JavaThread) → m ≡ Some a → m ≡ Some b → a ≡ b
    one m a b x y = cc

    frames_of : (x : JavaThread) → slice_get (with_frames (with_memory r made.0) t below).threads t ≡ Some x → below ≡ x.frames
    frames_of x at =
        ap (λ (y : JavaThread). y.frames)
        (one (slice_get (with_frames (with_memory r made.0) t below).threads t) last x (frames_there (with_memory r made.0) t h.thread below h.at) at)

left_keeps : (w : World) (r q : State) (t o class : ℕ) (f : Frame) (below : List Frame) → IsTypedState w r
    → Has r t (Live (Throwing o)) (f ∷ below) → Thrown w (f ∷ below) → frame_left w r t class f below ≡ Some q → IsTypedState w q
left_keeps w r q t o class f below typed h top e =
    either (is_synchronized_frame w f) (frame_monitor w f >>= frame_with_monitor_left w r t class f below) (frame_dropped w r t class f below) q
    (λ e. let m = some_is (frame_monitor w f) (frame_with_monitor_left w r t class f below) q e in
    either (owns r t m.0) (frame_dropped w (with_exit r m.0) t class f below)
    (exception_made w r.memory IllegalMonitorStateException >>= thrown_below w r t f below) q
    (λ e. dropped_keeps w (with_exit r m.0) q t o class f below (owner_keeps w r m.0 (left_once (r.owners m.0)) typed)
    (record { thread = h.thread; at = h.at; status_is = h.status_is; frames_is = h.frames_is }) top (is_root w f below) refl e)
    (λ e. let x = some_is (exception_made w r.memory IllegalMonitorStateException) (thrown_below w r t f below) q e in
    below_keeps w r q t o f below x.0 typed (exception_fits w r.memory IllegalMonitorStateException x.0 typed.values x.1) h top
    (is_root w f below) refl x.2) m.2)
    (λ e. dropped_keeps w r q t o class f below typed h top (is_root w f below) refl e) e

-- the thread goes on at a handler
status_is : (r : State) (t : ℕ) (thread : JavaThread) (status : Status) → slice_get r.threads t ≡ Some thread
    → with_status r t status ≡ record r { threads = slice_set r.threads t (record thread { thread = record thread.thread { status = status } }) }
status_is r t thread status e = rw e refl

caught_keeps : (w : World) (r : State) (t : ℕ) (thread : JavaThread) (frames : List Frame) → IsTypedState w r
    → slice_get r.threads t ≡ Some thread → Typed w frames → IsTypedState w (with_frames (with_status r t (Live Run)) t frames)
caught_keeps w r t thread frames typed at good =
    let runs : JavaThread = record thread { thread = record thread.thread { status = Live Run } } in
    let last : JavaThread = record runs { frames = frames } in
    let mid : State = record r { threads = slice_set r.threads t runs } in
    let all : with_frames (with_status r t (Live Run)) t frames ≡ record r { threads = slice_set r.threads t last } =
    ap (λ (s : State). with_frames s t frames) (status_is r t thread (Live Run) at)
    ∙ frames_is mid t runs frames (get_set r.threads t thread runs at)
    ∙ ap (λ (xs : List JavaThread). record r { threads = xs }) (set-set r.threads t runs last) in
    subst (IsTypedState w) (sym all) (thread_set w r t last typed good)

handled_keeps : (w : World) (r q : State) (t o class : ℕ) (f : Frame) (below : List Frame) → IsLinkedWorld w → IsTypedState w r
    → Has r t (Live (Throwing o)) (f ∷ below) → Thrown w (f ∷ below) → (m : Option Handler) → handler_of w class f ≡ m
    → handled_state w r t o class f below m ≡ Some q → IsTypedState w q
handled_keeps w r q t o class f below linked typed h top None found e =
    left_keeps w r q t o class f below typed h top e
handled_keeps w r q t o class f below linked typed h top (Some handler) found e =
    let g = handled w f below class o handler linked.typed top found in
    let after = with_frames (with_status r t (Live Run)) t (g.frame ∷ below) in
    let made : handled_state w r t o class f below (Some handler) ≡ Some after =
    bind_is (at_handler f handler.row.handler o) (λ g. Some (with_frames (with_status r t (Live Run)) t (g ∷ below))) g.frame (Some after) g.is refl in
    known_state w after q (sym made ∙ e) (caught_keeps w r t h.thread (g.frame ∷ below) typed h.at g.typed)

throwing_goes : (w : World) (r q : State) (t o : ℕ) (frames : List Frame) → IsLinkedWorld w → IsTypedState w r
    → Has r t (Live (Throwing o)) frames → Thrown w frames → throwing_step w r t o frames ≡ Some q → IsTypedState w q
throwing_goes w r q t o [] linked typed h top e = absurd top
throwing_goes w r q t o (f ∷ below) linked typed h top e =
    let class = some_is (class_at w r.memory o) (λ class. handled_state w r t o class f below (handler_of w class f)) q e in
    handled_keeps w r q t o class.0 f below linked typed h top (handler_of w class.0 f) refl class.2

-- ---- a step

-- a wait that is over: the instruction asks what it asked before
resumed_keeps : (w : World) (r q : State) (t : ℕ) (frames : List Frame) → IsLinkedWorld w → IsTypedState w r → OfFrames r t (Typed w)
    → Typed w frames → ((f : Frame) (below : List Frame) → frames ≡ f ∷ below → IsFrameResolution w r.memory f) → resumed w r t frames ≡ Some q
    → IsTypedState w q
resumed_keeps w r q t [] linked typed of top lies e = absurd top
resumed_keeps w r q t (f ∷ below) linked typed of top lies e =
    let x = some_is (asking_in w r.memory (f ∷ below)) (λ x. finished_asking (with_run r t) t x.1 x.0) q e in
    let on = asking_fits w r.memory f below linked typed.values top (lies f below refl) x.0 x.1 in
    finished_keeps_on w (with_run r t) q t x.0.1 x.0.0 (status_changes w r t Run typed of) on x.2

-- an interrupt is told, or the wait is over
interruptible_keeps : (w : World) (r q : State) (t : ℕ) (frames : List Frame) → IsLinkedWorld w → IsTypedState w r → OfFrames r t (Typed w)
    → Typed w frames → ((f : Frame) (below : List Frame) → frames ≡ f ∷ below → IsFrameResolution w r.memory f)
    → resumed_or_thrown w r t frames ≡ Some q → IsTypedState w q
interruptible_keeps w r q t frames linked typed of top lies e =
    either (is_interrupted r t) (thrown_interrupted w r t) (resumed w r t frames) q (λ e. thrown_interrupted_keeps w r q t typed of e)
    (λ e. resumed_keeps w r q t frames linked typed of top lies e) e

entered_keeps : (w : World) (r q : State) (t o : ℕ) (frames : List Frame) → IsLinkedWorld w → IsTypedState w r → OfFrames r t (Typed w)
    → Typed w frames → ((f : Frame) (below : List Frame) → frames ≡ f ∷ below → IsFrameResolution w r.memory f)
    → entered_monitor w r t o frames ≡ Some q → IsTypedState w q
entered_keeps w r q t o frames linked typed of top lies e =
    let s = with_entry r t o in
    let good = owner_keeps w r o (Some (entered_once t (r.owners o))) typed in
    either (is_first_entry o frames) (Some (with_run s t)) (resumed w s t frames) q
    (λ e. known_state w (with_run s t) q e (status_changes w s t Run good (λ x at. of x at)))
    (λ e. resumed_keeps w s q t frames linked good (λ x at. of x at) top lies e) e

reentered_keeps : (w : World) (r q : State) (t o count : ℕ) (wake : Wake) (frames : List Frame) → IsLinkedWorld w → IsTypedState w r
    → OfFrames r t (Typed w) → Typed w frames → ((f : Frame) (below : List Frame) → frames ≡ f ∷ below → IsFrameResolution w r.memory f)
    → reentered w r t o count wake frames ≡ Some q → IsTypedState w q
reentered_keeps w r q t o count wake frames linked typed of top lies e = by wake e
  where
    s : State
    s = with_owner r o (Some (record { thread = t; count = count }))

    good : IsTypedState w s
    good = owner_keeps w r o (Some (record { thread = t; count = count })) typed

    by : (wake : Wake) → waited w s t wake frames ≡ Some q → IsTypedState w q
    by Notified e = resumed_keeps w s q t frames linked good (λ x at. of x at) top lies e
    by TimedOut e = resumed_keeps w s q t frames linked good (λ x at. of x at) top lies e
    by Interrupted e = thrown_interrupted_keeps w s q t good (λ x at. of x at) e

park_keeps : (w : World) (r q : State) (t : ℕ) (frames : List Frame) → IsLinkedWorld w → IsTypedState w r → OfFrames r t (Typed w)
    → Typed w frames → ((f : Frame) (below : List Frame) → frames ≡ f ∷ below → IsFrameResolution w r.memory f)
    → park_over w r t frames ≡ Some q → IsTypedState w q
park_keeps w r q t frames linked typed of top lies e =
    resumed_keeps w (with_permit r t false) q t frames linked
    (thread_changed w r t (λ thread. record thread { permit = false }) typed (λ x at. typed.threads t x at))
    (frames_stay (Typed w) r t (λ thread. record thread { permit = false }) (λ x. refl) of) top
    (λ f below is i at. subst (λ (m : Memory). IsRowResolution w i.resolution (row_of i) m f.stack) (sym (memory_stays r t)) (lies f below is i at)) e
  where
    memory_stays : (r : State) (t : ℕ) → (with_permit r t false).memory ≡ r.memory
    memory_stays r t = by (slice_get r.threads t)
      where
        by : (o : Option JavaThread)
            → (option_map_or (λ thread. record r { threads = slice_set r.threads t (record thread { permit = false }) }) o r).memory ≡ r.memory
        by None = refl
        by (Some x) = refl

-- what is known of a thread at an instruction
record Stays (w : World) (r : State) (t : ℕ) (frames : List Frame) : Type 0 where
  pub of : OfFrames r t (Typed w)
  pub lies : (f : Frame) (below : List Frame) → frames ≡ f ∷ below → IsFrameResolution w r.memory f

stays : (w : World) (r : State) (t : ℕ) (phase : Phase) (frames : List Frame) → IsStepResolution w r t → Has r t (Live phase) frames
    → Typed w frames → instruction_frames frames (Live phase) ≡ Some frames → Stays w r t frames
stays w r t phase frames lies h top at_instruction = record {
  of = of_frames r t (Live phase) frames (Typed w) h top;
  lies = λ f below is. lies.top f below (there ∙ ap Some is);
}
  where
    there : instruction_frames_at r t ≡ Some frames
    there =
        bind_is (slice_get r.threads t) (λ thread. instruction_frames thread.frames thread.thread.status) h.thread (Some frames) h.at
        (ap (instruction_frames h.thread.frames) h.status_is ∙ ap (λ fs. instruction_frames fs (Live phase)) h.frames_is ∙ at_instruction)

phase_keeps : (w : World) (r q : State) (t : ℕ) (phase : Phase) (frames : List Frame) → IsLinkedWorld w → IsTypedState w r
    → IsStepResolution w r t → Has r t (Live phase) frames → AreOfPhase w frames phase → phase_step w r t frames phase ≡ Some q → IsTypedState w q
phase_keeps w r q t Run [] linked typed lies h top e = absurd top
phase_keeps w r q t Run (f ∷ below) linked typed lies h top e =
    let k = stays w r t Run (f ∷ below) lies h top refl in
    run_keeps w r q t (Live Run) f below linked lies.runs typed h top (k.lies f below refl) (row w (f ∷ below)) refl e
phase_keeps w r q t (Throwing o) frames linked typed lies h top e = throwing_goes w r q t o frames linked typed h top e
phase_keeps w r q t (Entering o) frames linked typed lies h top e =
    let k = stays w r t (Entering o) frames lies h top refl in entered_keeps w r q t o frames linked typed k.of top k.lies e
phase_keeps w r q t (Waiting o count deadline) frames linked typed lies h top e = absurd cc
phase_keeps w r q t (Reenter o count wake) frames linked typed lies h top e =
    let k = stays w r t (Reenter o count wake) frames lies h top refl in
    reentered_keeps w r q t o count wake frames linked typed k.of top k.lies e
phase_keeps w r q t (Parked deadline) frames linked typed lies h top e =
    let k = stays w r t (Parked deadline) frames lies h top refl in park_keeps w r q t frames linked typed k.of top k.lies e
phase_keeps w r q t (Asleep deadline) frames linked typed lies h top e =
    let k = stays w r t (Asleep deadline) frames lies h top refl in interruptible_keeps w r q t frames linked typed k.of top k.lies e
phase_keeps w r q t (Joining u deadline) frames linked typed lies h top e =
    let k = stays w r t (Joining u deadline) frames lies h top refl in interruptible_keeps w r q t frames linked typed k.of top k.lies e

status_keeps : (w : World) (r q : State) (t : ℕ) (thread : JavaThread) (status : Status) → IsLinkedWorld w → IsTypedState w r
    → IsStepResolution w r t → slice_get r.threads t ≡ Some thread → thread.thread.status ≡ status
    → status_step w r t thread.frames status ≡ Some q → IsTypedState w q
status_keeps w r q t thread New linked typed lies at is e = absurd cc
status_keeps w r q t thread (Live phase) linked typed lies at is e =
    let top : AreOfPhase w thread.frames phase = subst (AreOfStatus w thread.frames) is (typed.threads t thread at) in
    phase_keeps w r q t phase thread.frames linked typed lies (record { thread = thread; at = at; status_is = is; frames_is = refl }) top e
status_keeps w r q t thread Done linked typed lies at is e = absurd cc

if_some : {A : Type 0} (b : Bool) (o : Option A) (x : A) → (if b then o else None) ≡ Some x → o ≡ Some x
if_some true o x e = e
if_some false o x e = absurd cc

-- ---- threads that run

running_is : (w : World) (frames found : List Frame) (status : Status) → running_frames found status ≡ Some frames → AreOfStatus w found status
    → Typed w frames
running_is w frames found New e good = absurd cc
running_is w frames found (Live Run) e good = subst (Typed w) (inside found frames e) good
  where
    inside : (a b : List Frame) → ◌≡◌ {A = Option (List Frame)} (Some a) (Some b) → a ≡ b
    inside a b same = cc
running_is w frames found status e good = absurd cc

pub running_is_typed : (w : World) (r : State) (t : ℕ) (frames : List Frame) → IsTypedState w r → frames_at r t ≡ Some frames → Typed w frames
running_is_typed w r t frames typed e =
    let x = some_is (slice_get r.threads t) (λ thread. running_frames thread.frames thread.thread.status) frames e in
    running_is w frames x.0.frames x.0.thread.status x.2 (typed.threads t x.0 x.1)

-- who runs is at an instruction
running_there : (frames found : List Frame) (status : Status) → running_frames found status ≡ Some frames
    → instruction_frames found status ≡ Some frames
running_there frames found New e = absurd cc
running_there frames found (Live Run) e = e
running_there frames found status e = absurd cc

running_is_there : (r : State) (t : ℕ) (frames : List Frame) → frames_at r t ≡ Some frames → instruction_frames_at r t ≡ Some frames
running_is_there r t frames e =
    let x = some_is (slice_get r.threads t) (λ thread. running_frames thread.frames thread.thread.status) frames e in
    bind_is (slice_get r.threads t) (λ thread. instruction_frames thread.frames thread.thread.status) x.0 (Some frames) x.1
    (running_there frames x.0.frames x.0.thread.status x.2)

-- a notify picks a thread
picking_keeps : (w : World) (r q : State) (t u : ℕ) → IsLinkedWorld w → IsTypedState w r → IsStepResolution w r t
    → picking_step w r t u ≡ Some q → IsTypedState w q
picking_keeps w r q t u linked typed lies e =
    let x = some_is (asking_at w r t) (λ x. asked_with r t x.1 u x.0) q e in
    let frames = some_is (frames_at r t) (asking_in w r.memory) x.0 x.1 in
    by frames.0 frames.1 x.0 frames.2 x.2
  where
    by : (frames : List Frame) → frames_at r t ≡ Some frames → (x : Request × Asking) → asking_in w r.memory frames ≡ Some x
        → asked_with r t x.1 u x.0 ≡ Some q → IsTypedState w q
    by [] at x found picked = absurd cc
    by (f ∷ below) at x found picked =
        let top = running_is_typed w r t (f ∷ below) typed at in
        picked_keeps w r q t x.1 u x.0 typed
        (asking_fits w r.memory f below linked typed.values top (lies.top f below (running_is_there r t (f ∷ below) at)) x found) picked

pub step_keeps : (p : Setting) (r q : State) (t : ℕ) (pick : Option ℕ) → IsLinkedWorld p.world → IsTypedState p.world r
    → IsStepResolution p.world r t → step p r t pick ≡ Some q → IsTypedState p.world q
step_keeps p r q t (Some u) linked typed lies e =
    picking_keeps p.world r q t u linked typed lies (if_some (enabled r t) (picking_step p.world r t u) q e)
step_keeps p r q t None linked typed lies e =
    let made = if_some (enabled r t) (thread_step p.world r t) q e in
    let x = some_is (slice_get r.threads t) (λ thread. status_step p.world r t thread.frames thread.thread.status) q made in
    status_keeps p.world r q t x.0 x.0.thread.status linked typed lies x.1 refl x.2
