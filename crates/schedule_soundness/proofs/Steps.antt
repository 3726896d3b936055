-- Each step moves others as it may, and takes the monitor for which its thread was in line.
use Rattle.std.proofs.Common.{◌≡◌, ℕ, Bool, true, false, List, [], ◌∷◌, length, Option, Some, None, refl, ap, sym, ◌∙◌}
use Rattle.std.specs.Prelude.{is_some, slice_get, ◌==◌, ◌||◌, ◌++◌, if◌then◌else◌}
use Rattle.std.specs.Option.{option_map_or}
use Rattle.std.proofs.lemmas.Bool.{eq-eqb}
use Rattle.items.specs.Options.{◌>>=◌}
use Rattle.items.proofs.Binds.{some_is, bind_is}
use Rattle.opcodes.specs.declared.op.ValueKind.{ValueKind}
use Rattle.instruction_rows.specs.Rows.{Row, returns}
use Rattle.instruction_rows.specs.Table.{row as row_of}
use Rattle.vthread_state.specs.declared.phase.Phase.{Phase}
use Rattle.vthread_state.specs.declared.phase.Phase.TheVariants.{Run, Throwing, Entering, Waiting, Reenter, Parked, Asleep, Joining}
use Rattle.vthread_state.specs.declared.phase.Wake.{Wake}
use Rattle.vthread_state.specs.declared.phase.Wake.TheVariants.{Notified, TimedOut, Interrupted}
use Rattle.vthread_state.specs.declared.thread.Status.{Status}
use Rattle.vthread_state.specs.declared.thread.Status.TheVariants.{New, Live, Done}
use Rattle.link_model.specs.World.{World}
use Rattle.verify_types.specs.Environment.{Instruction, Handler}
use Rattle.state_model.specs.Frames.{Frame}
use Rattle.schedule_model.specs.Look.{in_entry_list}
use Rattle.ref_model.specs.declared.exception.Exception.TheVariants.{IllegalMonitorStateException}
use Rattle.ref_model.specs.Setting.{Setting}
use Rattle.ref_model.specs.Memory.{Memory}
use Rattle.ref_model.specs.State.{running_frames, JavaThread, Owner, State, with_memory, with_frames, with_permit, with_owner, is_interrupted, frames_at}
use Rattle.ref_model.specs.Heap.{class_at, units_at}
use Rattle.ref_model.specs.Classes.{class_name}
use Rattle.ref_model.specs.Texts.{text_bytes}
use Rattle.ref_model.specs.Fetch.{fetched}
use Rattle.ref_model.specs.Frames.{behind, is_root, returned}
use Rattle.ref_model.specs.Monitors.{owns, with_entry, with_exit, entered_once, left_once, is_synchronized_frame, frame_monitor}
use Rattle.ref_model.specs.LocalRows.{row}
use Rattle.ref_model.specs.Requests.{Request, request_result, calls}
use Rattle.ref_model.specs.Effects.{Effect, done, invokes, throws, throws_object, asks}
use Rattle.ref_model.specs.Asking.{Asking, with_run, thrown_interrupted}
use Rattle.ref_model.specs.Requesting.{asked_with}
use Rattle.ref_model.specs.Resuming.{asking_by, next_asks, asking_in, asking_at, finished_without, finished_asking, resumed, resumed_or_thrown, park_over, is_first_entry, entered_with, waited}
use Rattle.ref_model.specs.Throwing.{throwing, raised, exception_made, handler_of, at_handler, finished, uncaught, uncaught_line, frame_dropped, thrown_below, frame_with_monitor_left, frame_left, handled, throwing_step}
use Rattle.ref_model.specs.Step.{row_effect, after_effect, root_left, frame_returned, monitor_returned, return_event, row_event, event_step, row_or_event, phase_step, status_step, thread_step, picking_step, enabled, step}
use Rattle.ref_model.specs.Looks.{spot_in}
use Rattle.ref_model.proofs.StateLaws.{runs}
use Rattle.step_soundness.proofs.Starts.{either}
use Rattle.schedule_soundness.proofs.ThreadLists.{same_some, same_there}
use Rattle.schedule_soundness.proofs.OwnSteps.{AsksNo, OwnStep, IsGoing, own_change, own_then, moves_then, memory_moves, phase_own, run_going, frames_own, finished_own, known, goes_own, into_own, throwing_own, raised_own, interrupted_own}
use Rattle.schedule_soundness.proofs.OtherMoves.{StepMoves, moves_after, owner_moves, own_moves}
use Rattle.schedule_soundness.proofs.Starting.{Runs, still_going}
use Rattle.schedule_soundness.proofs.Requests.{asked_moves, picked_moves}

-- ---- effects

-- what it asks
abbrev effect_asks : Effect → Option Request
effect_asks (asks request stack) = Some request
effect_asks effect = None

-- whether what the instruction of these frames asks is such
abbrev asks_in : World → Memory → List Frame → (Request → Bool) → Bool
asks_in w memory frames test = option_map_or (λ (x : Request × Asking). test x.0) (asking_in w memory frames) false

-- what an instruction does, and what it asks
record RunStep (w : World) (t : ℕ) (r q : State) (frames : List Frame) : Type 0 where
  pub asking : Option Request
  pub moves : StepMoves w t r q asking
  pub asked : (test : Request → Bool) → option_map_or test asking false ≡ true → asks_in w r.memory frames test ≡ true

asked_by : (f : Frame) (below : List Frame) (next : ℕ) (effect : Effect) (test : Request → Bool)
    → option_map_or test (effect_asks effect) false ≡ true
    → option_map_or (λ (x : Request × Asking). test x.0) (asking_by f below next effect) false ≡ true
asked_by f below next (asks request stack) test e = e
asked_by f below next (done memory stack) test e = absurd cc
asked_by f below next (invokes g stack) test e = absurd cc
asked_by f below next (throws x) test e = absurd cc
asked_by f below next (throws_object o) test e = absurd cc

effect_moves : (w : World) (r q : State) (t next : ℕ) (f : Frame) (below : List Frame) (effect : Effect) (me : JavaThread)
    → slice_get r.threads t ≡ Some me → Runs r t → after_effect w r t next f below effect ≡ Some q → StepMoves w t r q (effect_asks effect)
effect_moves w r q t next f below (done memory stack) me there on e =
    let s = with_memory r memory in
    let g = some_is (behind f next stack) (λ g. Some (with_frames s t (g ∷ below))) q e in
    own_moves w t r q (own_then t r s q (memory_moves t r memory)
    (known t s (with_frames s t (g.0 ∷ below)) q g.2 (frames_own s t (g.0 ∷ below) (still_going s t on))))
effect_moves w r q t next f below (invokes g stack) me there on e =
    let frames = g ∷ record f { stack = stack } ∷ below in
    own_moves w t r q (known t r (with_frames r t frames) q e (frames_own r t frames (still_going r t on)))
effect_moves w r q t next f below (throws x) me there on e = own_moves w t r q (raised_own w r q t x e)
effect_moves w r q t next f below (throws_object o) me there on e = own_moves w t r q (known t r (throwing r t o) q e (throwing_own r t o))
effect_moves w r q t next f below (asks request stack) me there on e =
    asked_moves w r q t (record { frame = f; below = below; next = next; stack = stack }) request me there on e

-- ---- returns

root_own : (r : State) (t : ℕ) (below : List Frame) → IsGoing r t → OwnStep t r (root_left r t below) None
root_own r t [] on = finished_own r t
root_own r t (f ∷ below) on = frames_own r t (f ∷ below) on

returned_own : (w : World) (r q : State) (t : ℕ) (kind : Option ValueKind) (f : Frame) (below : List Frame) → IsGoing r t
    → frame_returned w r t kind f below ≡ Some q → OwnStep t r q None
returned_own w r q t kind f below on e =
    either (is_root w f below) (Some (root_left r t below)) (returned w kind f below >>= λ frames. Some (with_frames r t frames)) q
    (λ e. known t r (root_left r t below) q e (root_own r t below on))
    (λ e. let frames = some_is (returned w kind f below) (λ frames. Some (with_frames r t frames)) q e in
    known t r (with_frames r t frames.0) q frames.2 (frames_own r t frames.0 on)) e

return_moves : (w : World) (r q : State) (t : ℕ) (kind : Option ValueKind) (f : Frame) (below : List Frame) → IsGoing r t
    → return_event w r t kind f below ≡ Some q → StepMoves w t r q None
return_moves w r q t kind f below on e =
    either (is_synchronized_frame w f) (frame_monitor w f >>= monitor_returned w r t kind f below) (frame_returned w r t kind f below) q
    (λ e. let o = some_is (frame_monitor w f) (monitor_returned w r t kind f below) q e in
    either (owns r t o.0) (frame_returned w (with_exit r o.0) t kind f below) (raised w r t IllegalMonitorStateException) q
    (λ e. moves_after w t r (with_exit r o.0) q (owner_moves w t r o.0 (left_once (r.owners o.0)))
    (returned_own w (with_exit r o.0) q t kind f below on e))
    (λ e. own_moves w t r q (raised_own w r q t IllegalMonitorStateException e)) o.2)
    (λ e. own_moves w t r q (returned_own w r q t kind f below on e)) e

-- ---- events

asked_there : (w : World) (i : Instruction) (act : Row) (memory : Memory) (f : Frame) (below : List Frame) (effect : Effect) → fetched w f ≡ Some i
    → row_of i.instr.op ≡ act → row_effect w i act memory (length (f ∷ below)) f ≡ Some effect → (test : Request → Bool)
    → option_map_or test (effect_asks effect) false ≡ true → asks_in w memory (f ∷ below) test ≡ true
asked_there w i act memory f below effect at is made test such =
    let here : row_effect w i (row_of i.instr.op) memory (length (f ∷ below)) f ≡ Some effect =
    ap (λ a. row_effect w i a memory (length (f ∷ below)) f) is ∙ made in
    let asks : asking_in w memory (f ∷ below) ≡ asking_by f below i.instr.next effect =
    bind_is (fetched w f) (λ i. row_effect w i (row_of i.instr.op) memory (length (f ∷ below)) f >>= asking_by f below i.instr.next) i
    (asking_by f below i.instr.next effect) at
    (bind_is (row_effect w i (row_of i.instr.op) memory (length (f ∷ below)) f) (asking_by f below i.instr.next) effect
    (asking_by f below i.instr.next effect) here refl) in
    ap (λ o. option_map_or (λ (x : Request × Asking). test x.0) o false) asks ∙ asked_by f below i.instr.next effect test such

row_event_moves : (w : World) (i : Instruction) (act : Row) (r q : State) (t : ℕ) (f : Frame) (below : List Frame) (me : JavaThread)
    → slice_get r.threads t ≡ Some me → Runs r t → fetched w f ≡ Some i → row_of i.instr.op ≡ act → row_event w i act r t f below ≡ Some q
    → RunStep w t r q (f ∷ below)
row_event_moves w i (returns kind) r q t f below me there on at is e =
    record { asking = None; moves = return_moves w r q t kind f below (still_going r t on) e; asked = λ test z. absurd cc }
row_event_moves w i act r q t f below me there on at is e =
    let x = some_is (row_effect w i act r.memory (length (f ∷ below)) f) (after_effect w r t i.instr.next f below) q e in
    record {
      asking = effect_asks x.0;
      moves = effect_moves w r q t i.instr.next f below x.0 me there on x.2;
      asked = asked_there w i act r.memory f below x.0 at is x.1;
    }

event_moves : (w : World) (r q : State) (t : ℕ) (frames : List Frame) (me : JavaThread) → slice_get r.threads t ≡ Some me → Runs r t
    → event_step w r t frames ≡ Some q → RunStep w t r q frames
event_moves w r q t [] me there on e = absurd cc
event_moves w r q t (f ∷ below) me there on e =
    let i = some_is (fetched w f) (λ i. row_event w i (row_of i.instr.op) r t f below) q e in
    row_event_moves w i.0 (row_of i.0.instr.op) r q t f below me there on i.1 refl i.2

run_moves : (w : World) (r q : State) (t : ℕ) (frames : List Frame) (o : Option (List Frame)) (me : JavaThread) → slice_get r.threads t ≡ Some me
    → Runs r t → row_or_event w r t frames o ≡ Some q → RunStep w t r q frames
run_moves w r q t frames (Some after) me there on e =
    record {
      asking = None;
      moves = own_moves w t r q (known t r (with_frames r t after) q e (frames_own r t after (still_going r t on)));
      asked = λ test z. absurd cc;
    }
run_moves w r q t frames None me there on e = event_moves w r q t frames me there on e

-- ---- what is thrown

uncaught_own : (w : World) (r q : State) (t class : ℕ) → uncaught w r t class ≡ Some q → OwnStep t r q None
uncaught_own w r q t class e =
    let x = some_is (slice_get r.threads t) (λ thread. units_at r.memory thread.thread.name >>= λ name.
    Some (finished (record r {
      memory = record r.memory { err = r.memory.err ++ text_bytes (uncaught_line name (class_name w class)) };
      main_threw = r.main_threw || t == 0;
    }) t)) q e in
    let name = some_is (units_at r.memory x.0.thread.name) (λ name.
    Some (finished (record r {
      memory = record r.memory { err = r.memory.err ++ text_bytes (uncaught_line name (class_name w class)) };
      main_threw = r.main_threw || t == 0;
    }) t)) q x.2 in
    let s : State = record r {
      memory = record r.memory { err = r.memory.err ++ text_bytes (uncaught_line name.0 (class_name w class)) };
      main_threw = r.main_threw || t == 0;
    } in
    own_then t r s q (record { now = refl; owners = refl; others = λ u ne. refl; there = same_there t r s refl }) (known t s (finished s t) q name.2 (finished_own s t))

dropped_own : (w : World) (r q : State) (t class : ℕ) (f : Frame) (below : List Frame) → IsGoing r t → frame_dropped w r t class f below ≡ Some q
    → OwnStep t r q None
dropped_own w r q t class f below on e =
    either (is_root w f below) (uncaught w r t class) (Some (with_frames r t below)) q (λ e. uncaught_own w r q t class e)
    (λ e. known t r (with_frames r t below) q e (frames_own r t below on)) e

below_own : (w : World) (r q : State) (t : ℕ) (f : Frame) (below : List Frame) (made : Memory × ℕ) → thrown_below w r t f below made ≡ Some q
    → OwnStep t r q None
below_own w r q t f below made e =
    let s = with_memory r made.0 in
    let u = with_frames s t below in
    either (is_root w f below) (class_at w made.0 made.1 >>= λ class. uncaught w s t class) (Some (throwing u t made.1)) q
    (λ e. let class = some_is (class_at w made.0 made.1) (λ class. uncaught w s t class) q e in
    own_then t r s q (memory_moves t r made.0) (uncaught_own w s q t class.0 class.2))
    (λ e. own_then t r u q (moves_then t r s u (memory_moves t r made.0) (own_change s t (λ x. record x { frames = below })))
    (known t u (throwing u t made.1) q e (throwing_own u t made.1))) e

left_moves : (w : World) (r q : State) (t class : ℕ) (f : Frame) (below : List Frame) → IsGoing r t → frame_left w r t class f below ≡ Some q
    → StepMoves w t r q None
left_moves w r q t class f below on e =
    either (is_synchronized_frame w f) (frame_monitor w f >>= frame_with_monitor_left w r t class f below) (frame_dropped w r t class f below) q
    (λ e. let o = some_is (frame_monitor w f) (frame_with_monitor_left w r t class f below) q e in
    either (owns r t o.0) (frame_dropped w (with_exit r o.0) t class f below)
    (exception_made w r.memory IllegalMonitorStateException >>= thrown_below w r t f below) q
    (λ e. moves_after w t r (with_exit r o.0) q (owner_moves w t r o.0 (left_once (r.owners o.0)))
    (dropped_own w (with_exit r o.0) q t class f below on e))
    (λ e. let made = some_is (exception_made w r.memory IllegalMonitorStateException) (thrown_below w r t f below) q e in
    own_moves w t r q (below_own w r q t f below made.0 made.2)) o.2)
    (λ e. own_moves w t r q (dropped_own w r q t class f below on e)) e

handled_moves : (w : World) (r q : State) (t o class : ℕ) (f : Frame) (below : List Frame) (h : Option Handler) → IsGoing r t
    → handled w r t o class f below h ≡ Some q → StepMoves w t r q None
handled_moves w r q t o class f below None on e = left_moves w r q t class f below on e
handled_moves w r q t o class f below (Some h) on e =
    let s = with_run r t in
    let g = some_is (at_handler f h.row.handler o) (λ g. Some (with_frames s t (g ∷ below))) q e in
    let run : JavaThread → JavaThread = λ x. record x { thread = record x.thread { status = Live Run } } in
    own_moves w t r q (own_then t r s q (own_change r t run)
    (known t s (with_frames s t (g.0 ∷ below)) q g.2 (frames_own s t (g.0 ∷ below) (run_going r t))))

throwing_moves : (w : World) (r q : State) (t o : ℕ) (frames : List Frame) → IsGoing r t → throwing_step w r t o frames ≡ Some q → StepMoves w t r q None
throwing_moves w r q t o [] on e = absurd cc
throwing_moves w r q t o (f ∷ below) on e =
    let class = some_is (class_at w r.memory o) (λ class. handled w r t o class f below (handler_of w class f)) q e in
    handled_moves w r q t o class.0 f below (handler_of w class.0 f) on class.2

-- ---- waits that are over

without_own : (r q : State) (t : ℕ) (a : Asking) (kind : Option ValueKind) → IsGoing r t → finished_without r t a kind ≡ Some q → OwnStep t r q None
without_own r q t a None on e = goes_own r q t a on e
without_own r q t a (Some kind) on e = absurd cc

asking_own : (r q : State) (t : ℕ) (a : Asking) (request : Request) → IsGoing r t → finished_asking r t a request ≡ Some q → OwnStep t r q None
asking_own r q t a (calls o g) on e = into_own r q t a g on e
asking_own r q t a request on e = without_own r q t a (request_result request) on e

resumed_own : (w : World) (r q : State) (t : ℕ) (frames : List Frame) → resumed w r t frames ≡ Some q → OwnStep t r q None
resumed_own w r q t frames e =
    let s = with_run r t in
    let x = some_is (asking_in w r.memory frames) (λ x. finished_asking s t x.1 x.0) q e in
    let run : JavaThread → JavaThread = λ x. record x { thread = record x.thread { status = Live Run } } in
    own_then t r s q (own_change r t run) (asking_own s q t x.0.1 x.0.0 (run_going r t) x.2)

over_own : (w : World) (r q : State) (t : ℕ) (frames : List Frame) → resumed_or_thrown w r t frames ≡ Some q → OwnStep t r q None
over_own w r q t frames e =
    either (is_interrupted r t) (thrown_interrupted w r t) (resumed w r t frames) q (λ e. interrupted_own w r q t e)
    (λ e. resumed_own w r q t frames e) e

park_own : (w : World) (r q : State) (t : ℕ) (frames : List Frame) → park_over w r t frames ≡ Some q → OwnStep t r q None
park_own w r q t frames e =
    let s = with_permit r t false in
    own_then t r s q (own_change r t (λ x. record x { permit = false })) (resumed_own w s q t frames e)

entered_own : (w : World) (r q : State) (t o : ℕ) (frames : List Frame) → entered_with w r t o frames ≡ Some q → OwnStep t r q None
entered_own w r q t o frames e =
    either (is_first_entry o frames) (Some (with_run r t)) (resumed w r t frames) q
    (λ e. known t r (with_run r t) q e (phase_own r t Run refl (λ z. refl))) (λ e. resumed_own w r q t frames e) e

waited_own : (w : World) (r q : State) (t : ℕ) (wake : Wake) (frames : List Frame) → waited w r t wake frames ≡ Some q → OwnStep t r q None
waited_own w r q t Notified frames e = resumed_own w r q t frames e
waited_own w r q t TimedOut frames e = resumed_own w r q t frames e
waited_own w r q t Interrupted frames e = interrupted_own w r q t e

-- ---- one step

-- what a step of a thread in a phase does, and what it asks, if it is an instruction
pub record Stepped (w : World) (t : ℕ) (r q : State) (phase : Phase) : Type 0 where
  pub asking : Option Request
  pub moves : StepMoves w t r q asking
  pub asked : (test : Request → Bool) → option_map_or test asking false ≡ true → next_asks w r t test ≡ true
  pub taken : (o : ℕ) → spot_in phase ≡ in_entry_list o → is_some (q.owners o) ≡ true

-- a monitor that gets an owner
owner_there : (r q : State) (o p : ℕ) (owner : Owner) → q.owners ≡ (with_owner r o (Some owner)).owners → in_entry_list o ≡ in_entry_list p
    → is_some (q.owners p) ≡ true
owner_there r q o p owner same e =
    let here : o ≡ p = cc in
    ap (λ (f : ℕ → Option Owner). is_some (f p)) same ∙ by (p == o) (eq-eqb p o (sym here))
  where
    by : (b : Bool) → b ≡ true → is_some (if b then Some owner else r.owners p) ≡ true
    by true e = refl
    by false e = absurd cc

taken_step : (w : World) (t : ℕ) (r q : State) (o : ℕ) (owner : Owner) → OwnStep t (with_owner r o (Some owner)) q None
    → (phase : Phase) → spot_in phase ≡ in_entry_list o → Stepped w t r q phase
taken_step w t r q o owner own phase is =
    record {
      asking = None;
      asked = λ test z. absurd cc;
      moves = moves_after w t r (with_owner r o (Some owner)) q (owner_moves w t r o (Some owner)) own;
      taken = λ p e. owner_there r q o p owner own.moves.owners (sym is ∙ e);
    }

phase_moves : (w : World) (r q : State) (t : ℕ) (frames : List Frame) (phase : Phase) (me : JavaThread) → slice_get r.threads t ≡ Some me
    → me.thread.status ≡ Live phase → me.frames ≡ frames → phase_step w r t frames phase ≡ Some q → Stepped w t r q phase
phase_moves w r q t frames Run me there is has e =
    let on : Runs r t = λ x at. ap (λ (z : JavaThread). z.thread.status) (same_some (slice_get r.threads t) x me at there) ∙ is in
    let step = run_moves w r q t frames (row w frames) me there on e in
    let at : frames_at r t ≡ Some frames =
    bind_is (slice_get r.threads t) (λ (x : JavaThread). running_frames x.frames x.thread.status) me (Some frames) there
    (ap (running_frames me.frames) is ∙ ap Some has) in
    let asks : asking_at w r t ≡ asking_in w r.memory frames = bind_is (frames_at r t) (asking_in w r.memory) frames (asking_in w r.memory frames) at refl in
    record {
      asking = step.asking;
      moves = step.moves;
      asked = λ test z. ap (λ o. option_map_or (λ (x : Request × Asking). test x.0) o false) asks ∙ step.asked test z;
      taken = λ o z. absurd cc;
    }
phase_moves w r q t frames (Throwing o) me there is has e =
    let on : IsGoing r t = λ x at. record {
      phase = Throwing o;
      status = ap (λ (z : JavaThread). z.thread.status) (same_some (slice_get r.threads t) x me at there) ∙ is;
      loose = refl;
      timeless = λ z. refl;
    } in
    record { asking = None; asked = λ test z. absurd cc; moves = throwing_moves w r q t o frames on e; taken = λ p z. absurd cc }
phase_moves w r q t frames (Entering o) me there is has e =
    taken_step w t r q o (entered_once t (r.owners o)) (entered_own w (with_entry r t o) q t o frames e) (Entering o) refl
phase_moves w r q t frames (Waiting o count deadline) me there is has e = absurd cc
phase_moves w r q t frames (Reenter o count wake) me there is has e =
    let owner : Owner = record { thread = t; count = count } in
    taken_step w t r q o owner (waited_own w (with_owner r o (Some owner)) q t wake frames e) (Reenter o count wake) refl
phase_moves w r q t frames (Parked deadline) me there is has e =
    record { asking = None; asked = λ test z. absurd cc; moves = own_moves w t r q (park_own w r q t frames e); taken = λ o z. absurd cc }
phase_moves w r q t frames (Asleep deadline) me there is has e =
    record { asking = None; asked = λ test z. absurd cc; moves = own_moves w t r q (over_own w r q t frames e); taken = λ o z. absurd cc }
phase_moves w r q t frames (Joining u deadline) me there is has e =
    record { asking = None; asked = λ test z. absurd cc; moves = own_moves w t r q (over_own w r q t frames e); taken = λ o z. absurd cc }

-- the thread that steps is live
pub record LiveStep (w : World) (t : ℕ) (r q : State) : Type 0 where
  pub thread : JavaThread
  pub phase : Phase
  pub there : slice_get r.threads t ≡ Some thread
  pub status : thread.thread.status ≡ Live phase
  pub may : enabled r t ≡ true
  pub stepped : Stepped w t r q phase

-- what isn't asked next isn't asked by the step
pub asks_none : (w : World) (t : ℕ) (r q : State) (l : LiveStep w t r q) (test : Request → Bool) → next_asks w r t test ≡ false
    → AsksNo test l.stepped.asking
asks_none w t r q l test off = by (option_map_or test l.stepped.asking false) (l.stepped.asked test)
  where
    by : (b : Bool) → (b ≡ true → next_asks w r t test ≡ true) → b ≡ false
    by true asked = let z : true ≡ false = sym (asked refl) ∙ off in absurd cc
    by false asked = refl

status_moves : (w : World) (r q : State) (t : ℕ) (me : JavaThread) (status : Status) → enabled r t ≡ true → slice_get r.threads t ≡ Some me
    → me.thread.status ≡ status → status_step w r t me.frames status ≡ Some q → LiveStep w t r q
status_moves w r q t me New may there is e = absurd cc
status_moves w r q t me (Live phase) may there is e =
    record { thread = me; phase = phase; there = there; status = is; may = may; stepped = phase_moves w r q t me.frames phase me there is refl e }
status_moves w r q t me Done may there is e = absurd cc

picking_moves : (w : World) (r q : State) (t u : ℕ) → enabled r t ≡ true → picking_step w r t u ≡ Some q → LiveStep w t r q
picking_moves w r q t u may e =
    let x = some_is (asking_at w r t) (λ x. asked_with r t x.1 u x.0) q e in
    let frames = some_is (frames_at r t) (asking_in w r.memory) x.0 x.1 in
    let h = runs r t frames.0 frames.1 in
    let on : Runs r t = λ y at. ap (λ (z : JavaThread). z.thread.status) (same_some (slice_get r.threads t) y h.thread at h.at) ∙ h.running in
    record {
      thread = h.thread;
      phase = Run;
      there = h.at;
      status = h.running;
      may = may;
      stepped = record { asking = None; asked = λ test z. absurd cc; moves = picked_moves w r q t x.0.1 u x.0.0 on x.2; taken = λ o z. absurd cc };
    }

pub guarded : (b : Bool) (o : Option State) (q : State) → (if b then o else None) ≡ Some q → (b ≡ true) × (o ≡ Some q)
guarded true o q e = (refl, e)
guarded false o q e = absurd cc

pub step_moves : (p : Setting) (r q : State) (t : ℕ) (pick : Option ℕ) → step p r t pick ≡ Some q → LiveStep p.world t r q
step_moves p r q t None e =
    let g = guarded (enabled r t) (thread_step p.world r t) q e in
    let x = some_is (slice_get r.threads t) (λ thread. status_step p.world r t thread.frames thread.thread.status) q g.1 in
    status_moves p.world r q t x.0 x.0.thread.status g.0 x.1 refl x.2
step_moves p r q t (Some u) e =
    let g = guarded (enabled r t) (picking_step p.world r t u) q e in picking_moves p.world r q t u g.0 g.1
