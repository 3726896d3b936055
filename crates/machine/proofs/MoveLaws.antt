-- The step of a thread, by what the crate of its state says of it in its phase.
use Rattle.std.proofs.Common.{◌≡◌, ◌<◌, ◌≤◌, ℕ, zero, suc, length, arith, Bool, true, false, List, [], ◌∷◌, Option, None, Some, refl, ap, sym, subst, ◌∙◌, not, ◌&&◌}
use Rattle.std.specs.Prelude.{map, slice_get}
use Rattle.std.specs.Option.{option_map_or}
use Rattle.items.specs.Options.{◌>>=◌}
use Rattle.items.proofs.Binds.{some_is}
use Rattle.vthread_state.specs.declared.phase.Phase.{Phase}
use Rattle.vthread_state.specs.declared.phase.Phase.TheVariants.{Run, Throwing, Entering, Waiting, Reenter, Parked, Asleep, Joining}
use Rattle.vthread_state.specs.declared.thread.Status.TheVariants.{Live}
use Rattle.vthread_state.specs.Threads.{phase_at}
use Rattle.link_model.specs.World.{World}
use Rattle.state_model.specs.Frames.{Frame}
use Rattle.continuation.specs.Continuation.{Continuation}
use Rattle.frames.specs.Frames.{top_method, top_pc, top_stack}
use Rattle.heap_instructions.specs.Operands.{operands}
use Rattle.invocation.specs.declared.synchronized_calls.SynchronizedCall.{SynchronizedCall}
use Rattle.schedule_soundness.specs.PutLaws.{OthersStay}
use Rattle.ref_model.specs.State.{JavaThread, State, frames_at, is_interrupted, running_frames}
use Rattle.ref_model.specs.Asking.{Asking}
use Rattle.ref_model.specs.Memory.{Memory}
use Rattle.ref_model.specs.Monitors.{with_monitor}
use Rattle.ref_model.specs.Requests.{Request, calls, reads_clock, request_of}
use Rattle.ref_model.specs.Requesting.{asked_with}
use Rattle.ref_model.specs.Requests as requests
use Rattle.ref_model.specs.Resuming.{asking_at, asking_in, next_asks}
use Rattle.ref_model.specs.Starting.{may_create}
use Rattle.ref_model.specs.Step.{phase_step, status_step, thread_step}
use Rattle.ref_model.specs.Looks.{is_create, is_yield, reads_clock_next, yields_next}
use Rattle.interp_local.specs.declared.fetched.Fetched.{Fetched}
use Rattle.interp_local.specs.Fetched.{IsTopAt, instruction_at, instruction_of}
use Rattle.thread_steps.specs.States.{memory_of}
use Rattle.thread_steps.specs.declared.progress.PendingRequest.{PendingRequest}
use Rattle.program_state.specs.declared.state.ProgramState.{ProgramState}
use Rattle.program_state.specs.Requests.{IsPending, LacksThreads as LacksThreadsThen}
use Rattle.thread_steps.specs.declared.progress.Progress.{Progress}
use Rattle.thread_steps.specs.declared.progress.Progress.TheVariants.{Stepped, Asks, Calls, Returns}
use Rattle.thread_steps.specs.declared.progress.MonitorReturn.{MonitorReturn}
use Rattle.thread_steps.specs.declared.parts.Parts.{Parts}
use Rattle.program_state.specs.Running.{IsCallPending, IsProgress, IsReturnPending, StandsAt, Stays}
use Rattle.program_state.specs.Monitors.{ListsMove, stay}
use Rattle.program_state.specs.States.{HasFrames, IsInPhase, IsState}
use Rattle.program_state.specs.Steps.{StepsTo}
use Rattle.monitors.specs.Monitors.{Monitors, monitor_of}
use Rattle.monitor_steps.specs.declared.outcome.MonitorOutcome.{MonitorOutcome}
use Rattle.monitor_steps.specs.declared.outcome.MonitorOutcome.TheVariants as outcomes
use Rattle.monitor_steps.specs.Outcomes.{Frees, FreesMonitor, IsLeaving, IsMade as IsOutcome, NotifiesThread, others_stay}
use Rattle.machine.specs.declared.made.Attempt.{Attempt}
use Rattle.machine.specs.declared.made.Attempt.TheVariants.{Made, LacksThreads, ReadsClock}
use Rattle.machine.specs.declared.made.Move.{Move}
use Rattle.frame_soundness.specs.Typed.{Typed}
use Rattle.frame_soundness.specs.TypedStates.{AreOfPhase}
use Rattle.machine.specs.declared.made.Others.{Others}
use Rattle.machine.specs.declared.made.Others.TheVariants as moves
use Rattle.machine.specs.AtHand.{is_in_line, is_waiting}
use Rattle.machine.specs.Moves.{IsAsked, IsInTime, IsMade, IsRequested, LacksRoom, Moves, MovesAtAnyTime, PicksFirst, ReadsFirst, RunsOrAsks, StaysIfReading, alone, has_stepped, others_after, others_left, others_of, picked, step_with}
use Rattle.machine.proofs.AheadLaws.{frames_running}
use Rattle.machine.proofs.StateLaws.{status_is}

-- the instruction at hand is the one that is fetched
pub stands : (w : World) (frames : List Frame) (x : Fetched) → IsTopAt w frames x → StandsAt w (instruction_of x) frames
stands w frames x at f below top = subst (λ (fs : List Frame). instruction_at w (top_method fs) (top_pc fs) ≡ Some (instruction_of x)) top at.at

-- ---- a step in a phase

in_phase : (a : ProgramState) (r : State) (out : ℕ → Bool) (t : ℕ) (phase : Phase) (before : List Frame) → IsState a r out → phase_at a.threads t ≡ Some phase
    → HasFrames r t before → IsInPhase r t phase before
in_phase a r out t phase before is at has =
    record { thread = has.thread; at = has.at; status = status_is a r out t has.thread phase is has.at at; has = has.has }

phase_steps : (w : World) (r : State) (t : ℕ) (phase : Phase) (before : List Frame) → IsInPhase r t phase before → thread_step w r t ≡ phase_step w r t before phase
phase_steps w r t phase before h =
    ap (λ o. o >>= λ (x : JavaThread). status_step w r t x.frames x.thread.status) h.at ∙ ap (λ s. status_step w r t h.thread.frames s) h.status
    ∙ ap (λ fs. phase_step w r t fs phase) h.has

pub moves_by : (w : World) (made : Move) (t : ℕ) (phase : Phase) (old new : ProgramState) (before after : List Frame) → phase_at old.threads t ≡ Some phase
    → picked made.others ≡ None → ListsMove old.monitors new.monitors → StepsTo w (others_of new.monitors t made.others) phase t old before new after
    → ((r : State) (out : ℕ → Bool) → IsState old r out → IsInPhase r t phase before → yields_next w r t ≡ made.yields)
    → Moves w made t old before new after
moves_by w made t phase old new before after at none lists steps yields = record {
  lists = lists;
  first = subst (PicksFirst old.monitors) (sym none) tt;
  leads = λ r out is on has.
      let h = in_phase old r out t phase before is at has in
      let l = steps r out is on h in
      record {
        leads = record {
          next = l.next;
          makes = ap (λ p. step_with w t p r) none ∙ phase_steps w r t phase before h ∙ l.makes;
          is = l.is;
          has = l.has;
          others = l.others;
        };
        yields = yields r out is h;
      };
}

-- ---- what a step leaves of others, in other words

steps_leave : (w : World) (leaves leaves' : State → State → Type 0) (phase : Phase) (t : ℕ) (old new : ProgramState) (before after : List Frame)
    → ((r q : State) → leaves r q → leaves' r q) → StepsTo w leaves phase t old before new after → StepsTo w leaves' phase t old before new after
steps_leave w leaves leaves' phase t old new before after so steps r out is on at =
    let l = steps r out is on at in
    record { next = l.next; makes = l.makes; is = l.is; has = l.has; others = so r l.next l.others }

pub stay_steps : (w : World) (phase : Phase) (t : ℕ) (old new : ProgramState) (before after : List Frame) → StepsTo w (OthersStay t) phase t old before new after
    → StepsTo w (others_of new.monitors t moves.Stay) phase t old before new after
stay_steps w phase t old new before after steps =
    steps_leave w (OthersStay t) (others_of new.monitors t moves.Stay) phase t old new before after (λ r q others. others_stay others) steps

frees_steps : (w : World) (first : Option ℕ) (phase : Phase) (t : ℕ) (old new : ProgramState) (before after : List Frame) → FreesMonitor w first phase t old before new after
    → StepsTo w (others_of new.monitors t (moves.Frees first)) phase t old before new after
frees_steps w first phase t old new before after h =
    steps_leave w (Frees t h.monitor) (others_of new.monitors t (moves.Frees first)) phase t old new before after
    (λ r q frees. record { monitor = h.monitor; frees = frees; first_is = h.first_is }) h.steps

notifies_moves : (w : World) (u t : ℕ) (old new : ProgramState) (before after : List Frame) → phase_at old.threads t ≡ Some Run → ListsMove old.monitors new.monitors
    → NotifiesThread w u t old before new after
    → ((r : State) (out : ℕ → Bool) → IsState old r out → IsInPhase r t Run before → yields_next w r t ≡ false)
    → Moves w (record { others = moves.Notifies u; yields = false }) t old before new after
notifies_moves w u t old new before after at lists h yields = record {
  lists = lists;
  first = record { monitor = h.monitor; first_is = h.first_is };
  leads = λ r out is on has.
      let there = in_phase old r out t Run before is at has in
      let l = h.steps r out is on there in
      record {
        leads = record { next = l.next; makes = l.makes; is = l.is; has = l.has; others = l.others };
        yields = yields r out is there;
      };
}

-- the step on a monitor, by its outcome
pub monitor_moves : (w : World) (outcome : MonitorOutcome) (t : ℕ) (old new : ProgramState) (before after : List Frame) → phase_at old.threads t ≡ Some Run
    → ListsMove old.monitors new.monitors → IsOutcome w outcome Run t old before new after
    → ((r : State) (out : ℕ → Bool) → IsState old r out → IsInPhase r t Run before → yields_next w r t ≡ false)
    → Moves w (record { others = others_after outcome; yields = false }) t old before new after
monitor_moves w outcomes.Done t old new before after at lists steps yields =
    moves_by w (record { others = moves.Quiet; yields = false }) t Run old new before after at refl lists steps yields
monitor_moves w (outcomes.Frees first) t old new before after at lists frees yields =
    moves_by w (record { others = moves.Frees first; yields = false }) t Run old new before after at refl lists (frees_steps w first Run t old new before after frees) yields
monitor_moves w (outcomes.Notifies u) t old new before after at lists notifies yields =
    notifies_moves w u t old new before after at lists notifies.1 yields

-- the same of one that leaves a frame
pub leaving_moves : (w : World) (outcome : MonitorOutcome) (phase : Phase) (t : ℕ) (old new : ProgramState) (before after : List Frame)
    → phase_at old.threads t ≡ Some phase → ListsMove old.monitors new.monitors → IsLeaving w outcome phase t old before new after
    → ((r : State) (out : ℕ → Bool) → IsState old r out → IsInPhase r t phase before → yields_next w r t ≡ false)
    → Moves w (record { others = others_left outcome; yields = false }) t old before new after
leaving_moves w outcomes.Done phase t old new before after at lists steps yields =
    moves_by w (record { others = moves.Stay; yields = false }) t phase old new before after at refl lists steps yields
leaving_moves w (outcomes.Frees first) phase t old new before after at lists frees yields =
    moves_by w (record { others = moves.Frees first; yields = false }) t phase old new before after at refl lists
    (frees_steps w first phase t old new before after frees) yields
leaving_moves w (outcomes.Notifies u) phase t old new before after at lists never yields = absurd never

-- what it does to others, as code found it
pub with_others : (w : World) (others others' : Others) (t : ℕ) (old new : ProgramState) (before after : List Frame) → others ≡ others'
    → Moves w (record { others = others'; yields = false }) t old before new after → Moves w (record { others = others; yields = false }) t old before new after
with_others w others others' t old new before after is moved =
    subst (λ (o : Others). Moves w (record { others = o; yields = false }) t old before new after) (sym is) moved

-- no list changes
pub same_lists : (old new : Monitors) → new ≡ old → ListsMove old new
same_lists old new same = stay (record { waits = λ o. ap (λ m. (monitor_of m o).wait_list) same; enters = λ o. ap (λ m. (monitor_of m o).entry_list) same })

-- ---- what the instruction asks

frames_there : (r : State) (t : ℕ) (before : List Frame) → IsInPhase r t Run before → frames_at r t ≡ Some before
frames_there r t before h = frames_running r t h.thread h.at h.status ∙ ap Some h.has

asks_there : (w : World) (a : ProgramState) (r : State) (out : ℕ → Bool) (t : ℕ) (before : List Frame) → IsState a r out → IsInPhase r t Run before
    → asking_at w r t ≡ asking_in w (memory_of a.memory) before
asks_there w a r out t before is h =
    ap (λ o. o >>= asking_in w r.memory) (frames_there r t before h) ∙ ap (λ m. asking_in w m before) (sym is.memory)

pub quiet_yields : (w : World) (a : ProgramState) (r : State) (out : ℕ → Bool) (t : ℕ) (before : List Frame) → IsState a r out → IsInPhase r t Run before
    → asking_in w (memory_of a.memory) before ≡ None → yields_next w r t ≡ false
quiet_yields w a r out t before is h quiet =
    ap (λ o. option_map_or (λ (x : Request × Asking). is_yield (is_interrupted r t) x.0) o false) (asks_there w a r out t before is h ∙ quiet)

pub pending_yields : (w : World) (q : PendingRequest) (a : ProgramState) (r : State) (out : ℕ → Bool) (t : ℕ) (before : List Frame) (interrupted : Bool) → IsState a r out
    → IsInPhase r t Run before → IsPending w q a.memory before → interrupted ≡ is_interrupted r t → yields_next w r t ≡ is_yield interrupted (request_of q.request)
pending_yields w q a r out t before interrupted is h asks tells =
    ap (λ o. option_map_or (λ (x : Request × Asking). is_yield (is_interrupted r t) x.0) o false) (asks_there w a r out t before is h ∙ asks.asks.asking)
    ∙ ap (λ b. is_yield b (request_of q.request)) (sym tells)

-- ---- the interrupt status

flags_at : (xs : List JavaThread) (t : ℕ)
    → option_map_or (λ b. b) (slice_get (map (λ (x : JavaThread). x.interrupted) xs) t) false
    ≡ option_map_or (λ (x : JavaThread). x.interrupted) (slice_get xs t) false
flags_at [] t = refl
flags_at (x ∷ xs) zero = refl
flags_at (x ∷ xs) (suc t) = flags_at xs t

-- the parts tell it
pub interrupt_told : (a : ProgramState) (r : State) (out : ℕ → Bool) (t : ℕ) → IsState a r out
    → option_map_or (λ b. b) (slice_get a.wakes.interrupts t) false ≡ is_interrupted r t
interrupt_told a r out t is = ap (λ bs. option_map_or (λ b. b) (slice_get bs t) false) is.interrupts ∙ flags_at r.threads t

no_flag : (bs : List Bool) (t : ℕ) → length bs ≤ t → slice_get bs t ≡ None
no_flag [] t le = refl
no_flag (b ∷ bs) zero le = absurd (omega arith)
no_flag (b ∷ bs) (suc t) le = no_flag bs t (omega arith)

pub absent_interrupt : (a : ProgramState) (r : State) (out : ℕ → Bool) (t : ℕ) → IsState a r out → length a.wakes.interrupts ≤ t → false ≡ is_interrupted r t
absent_interrupt a r out t is past =
    sym (ap (λ o. option_map_or (λ b. b) o false) (no_flag a.wakes.interrupts t past)) ∙ interrupt_told a r out t is

pub present_interrupt : (a : ProgramState) (r : State) (out : ℕ → Bool) (t : ℕ) (b : Bool) → IsState a r out → slice_get a.wakes.interrupts t ≡ Some b
    → b ≡ is_interrupted r t
present_interrupt a r out t b is at = sym (ap (λ o. option_map_or (λ b. b) o false) at) ∙ interrupt_told a r out t is

-- ---- a thread that doesn't run asks nothing

off_asks : (w : World) (r : State) (t : ℕ) (phase : Phase) (before : List Frame) (test : Request → Bool) → running_frames before (Live phase) ≡ None → IsInPhase r t phase before
    → option_map_or (λ (x : Request × Asking). test x.0) (asking_at w r t) false ≡ false
off_asks w r t phase before test off h =
    ap (λ fs. option_map_or (λ (x : Request × Asking). test x.0) (fs >>= asking_in w r.memory) false)
    (ap (λ x. x >>= λ (y : JavaThread). running_frames y.frames y.thread.status) h.at ∙ ap (running_frames h.thread.frames) h.status
    ∙ ap (λ fs. running_frames fs (Live phase)) h.has ∙ off)

pub off_yields : (w : World) (r : State) (t : ℕ) (phase : Phase) (before : List Frame) → running_frames before (Live phase) ≡ None → IsInPhase r t phase before
    → yields_next w r t ≡ false
off_yields w r t phase before off h = off_asks w r t phase before (is_yield (is_interrupted r t)) off h

pub waiting_frames : (frames : List Frame) (phase : Phase) → is_waiting phase ≡ true → running_frames frames (Live phase) ≡ None
waiting_frames frames Run e = absurd cc
waiting_frames frames (Throwing o) e = absurd cc
waiting_frames frames (Entering o) e = absurd cc
waiting_frames frames (Waiting o n deadline) e = absurd cc
waiting_frames frames (Reenter o n wake) e = absurd cc
waiting_frames frames (Parked deadline) e = refl
waiting_frames frames (Asleep deadline) e = refl
waiting_frames frames (Joining u deadline) e = refl

pub line_frames : (frames : List Frame) (phase : Phase) → is_in_line phase ≡ true → running_frames frames (Live phase) ≡ None
line_frames frames Run e = absurd cc
line_frames frames (Throwing o) e = absurd cc
line_frames frames (Entering o) e = refl
line_frames frames (Waiting o n deadline) e = absurd cc
line_frames frames (Reenter o n wake) e = refl
line_frames frames (Parked deadline) e = absurd cc
line_frames frames (Asleep deadline) e = absurd cc
line_frames frames (Joining u deadline) e = absurd cc

-- the frames of a thread that waits are at its instruction, as those of one that runs
pub waiting_typed : (w : World) (frames : List Frame) (phase : Phase) → is_waiting phase ≡ true → AreOfPhase w frames phase → Typed w frames
waiting_typed w frames Run e typed = absurd cc
waiting_typed w frames (Throwing o) e typed = absurd cc
waiting_typed w frames (Entering o) e typed = absurd cc
waiting_typed w frames (Waiting o n deadline) e typed = absurd cc
waiting_typed w frames (Reenter o n wake) e typed = absurd cc
waiting_typed w frames (Parked deadline) e typed = typed
waiting_typed w frames (Asleep deadline) e typed = typed
waiting_typed w frames (Joining u deadline) e typed = typed

pub line_typed : (w : World) (frames : List Frame) (phase : Phase) → is_in_line phase ≡ true → AreOfPhase w frames phase → Typed w frames
line_typed w frames Run e typed = absurd cc
line_typed w frames (Throwing o) e typed = absurd cc
line_typed w frames (Entering o) e typed = typed
line_typed w frames (Waiting o n deadline) e typed = absurd cc
line_typed w frames (Reenter o n wake) e typed = typed
line_typed w frames (Parked deadline) e typed = absurd cc
line_typed w frames (Asleep deadline) e typed = absurd cc
line_typed w frames (Joining u deadline) e typed = absurd cc

-- ---- one thread too many

and_true : (a b : Bool) → a ≡ true → b ≡ true → (a && b) ≡ true
and_true a b e f = ap (λ x. x && b) e ∙ f

pub lacks_room : (w : World) (q : PendingRequest) (t : ℕ) (old new : ProgramState) (m n : Continuation) → phase_at old.threads t ≡ Some Run
    → IsPending w q old.memory m.stack.frames → LacksThreadsThen q old m new n → LacksRoom w t old m.stack.frames new
lacks_room w q t old new m n at asks lacks = record {
  same = lacks.state;
  lacks = λ r out is has.
      let h = in_phase old r out t Run m.stack.frames is at has in
      and_true (not (may_create r)) (next_asks w r t is_create) (ap not (lacks.full r out is))
      (ap (λ o. option_map_or (λ (x : Request × Asking). is_create x.0) o false) (asks_there w old r out t m.stack.frames is h ∙ asks.asks.asking) ∙ lacks.creates);
}

-- ---- a step that reads the clock

no_both : (b : Bool) → b ≡ true → b ≡ false → ⊥
no_both b i j = absurd cc

pub reads_first : (w : World) (q : PendingRequest) (now t : ℕ) (a : ProgramState) (before : List Frame) → phase_at a.threads t ≡ Some Run → IsPending w q a.memory before
    → reads_clock (request_of q.request) ≡ true → a.time < now → ReadsFirst w now t a before a
reads_first w q now t a before at asks asked later = record {
  same = refl;
  later = later;
  reads = λ r out is has.
      let h = in_phase a r out t Run before is at has in
      ap (λ o. option_map_or (λ (x : Request × Asking). reads_clock x.0) o false) (asks_there w a r out t before is h ∙ asks.asks.asking) ∙ asked;
}

-- a step that asks nothing doesn't
pub quiet_in_time : (w : World) (now t : ℕ) (a : ProgramState) (before : List Frame) → phase_at a.threads t ≡ Some Run → asking_in w (memory_of a.memory) before ≡ None
    → IsInTime w now t a before
quiet_in_time w now t a before at quiet r out is has reads =
    let h = in_phase a r out t Run before is at has in
    absurd (no_both (reads_clock_next w r t) reads
    (ap (λ o. option_map_or (λ (x : Request × Asking). reads_clock x.0) o false) (asks_there w a r out t before is h ∙ quiet)))

-- it makes its step, or asks something
pub runs_or_asks : (w : World) (progress : Progress) (old new : ProgramState) (m n : Continuation) → phase_at old.threads m.thread ≡ Some Run → new.monitors ≡ old.monitors
    → IsProgress w progress old m new n → RunsOrAsks w progress old m new n
runs_or_asks w Stepped old new m n at same stepped = (
  moves_by w alone m.thread Run old new m.stack.frames n.stack.frames at refl (same_lists old.monitors new.monitors same)
      (stay_steps w Run m.thread old new m.stack.frames n.stack.frames stepped.steps)
      (λ r out is h. quiet_yields w old r out m.thread m.stack.frames is h stepped.quiet),
  λ now. quiet_in_time w now m.thread old m.stack.frames at stepped.quiet,
)
runs_or_asks w (Asks q) old new m n at same asked = asked
runs_or_asks w (Calls call) old new m n at same asked = asked
runs_or_asks w (Returns q) old new m n at same asked = asked

-- what it asks, where it hasn't made its step
pub what_it_asks : (w : World) (progress : Progress) (old new : ProgramState) (m n : Continuation) → RunsOrAsks w progress old m new n → has_stepped progress ≡ false
    → IsAsked w progress old.memory m.stack.frames × Stays old m new n
what_it_asks w Stepped old new m n h stepped = absurd cc
what_it_asks w (Asks q) old new m n h stepped = h
what_it_asks w (Calls call) old new m n h stepped = h
what_it_asks w (Returns q) old new m n h stepped = h

pub the_step : (w : World) (progress : Progress) (old new : ProgramState) (m n : Continuation) → RunsOrAsks w progress old m new n → has_stepped progress ≡ true
    → MovesAtAnyTime w alone m.thread old m.stack.frames new n.stack.frames
the_step w Stepped old new m n h stepped = h
the_step w (Asks q) old new m n h stepped = absurd cc
the_step w (Calls call) old new m n h stepped = absurd cc
the_step w (Returns q) old new m n h stepped = absurd cc

-- ---- a call of a synchronized method, and a return from one

calling_asks : (w : World) (call : SynchronizedCall) (a : ProgramState) (r : State) (out : ℕ → Bool) (t : ℕ) (before : List Frame) (test : Request → Bool) → IsState a r out
    → IsInPhase r t Run before → (pending : IsCallPending w call a.memory before) → test (calls call.monitor (with_monitor pending.calls.callee call.monitor)) ≡ false
    → option_map_or (λ (x : Request × Asking). test x.0) (asking_at w r t) false ≡ false
calling_asks w call a r out t before test is h pending none =
    ap (λ o. option_map_or (λ (x : Request × Asking). test x.0) o false) (asks_there w a r out t before is h ∙ pending.calls.asking) ∙ none

pub calling_yields : (w : World) (call : SynchronizedCall) (a : ProgramState) (r : State) (out : ℕ → Bool) (t : ℕ) (before : List Frame) → IsState a r out → IsInPhase r t Run before
    → IsCallPending w call a.memory before → yields_next w r t ≡ false
calling_yields w call a r out t before is h pending = calling_asks w call a r out t before (is_yield (is_interrupted r t)) is h pending refl

pub calling_in_time : (w : World) (call : SynchronizedCall) (now t : ℕ) (a : ProgramState) (before : List Frame) → phase_at a.threads t ≡ Some Run
    → IsCallPending w call a.memory before → IsInTime w now t a before
calling_in_time w call now t a before at pending r out is has reads =
    let h = in_phase a r out t Run before is at has in
    absurd (no_both (reads_clock_next w r t) reads (calling_asks w call a r out t before reads_clock is h pending refl))

pub call_frame : (w : World) (call : SynchronizedCall) (memory : Parts) (m : Continuation) → IsCallPending w call memory m.stack.frames
    → (0 < length m.stack.frames) × (call.callee.slots ≤ length (operands m))
call_frame w call memory m pending =
    let one = ap (λ fs. length fs) pending.top in
    let takes = pending.calls.takes in
    (omega arith, subst (λ fs. call.callee.slots ≤ length (top_stack fs)) (sym pending.top) takes)

pub return_quiet : (w : World) (q : MonitorReturn) (memory : Memory) (before : List Frame) → IsReturnPending w q before → asking_in w memory before ≡ None
return_quiet w q memory before pending = ap (asking_in w memory) pending.top ∙ pending.returns.quiet memory

-- one that asks something may, where the time isn't less
pub pending_in_time : (w : World) (q : PendingRequest) (now t : ℕ) (a : ProgramState) (before : List Frame) → phase_at a.threads t ≡ Some Run → IsPending w q a.memory before
    → (reads_clock (request_of q.request) ≡ true → now ≤ a.time) → IsInTime w now t a before
pending_in_time w q now t a before at asks late r out is has reads =
    let h = in_phase a r out t Run before is at has in
    late (sym (ap (λ o. option_map_or (λ (x : Request × Asking). reads_clock x.0) o false) (asks_there w a r out t before is h ∙ asks.asks.asking)) ∙ reads)

-- a thread that doesn't run reads no clock
pub off_in_time : (w : World) (now t : ℕ) (phase : Phase) (a : ProgramState) (before : List Frame) → running_frames before (Live phase) ≡ None
    → phase_at a.threads t ≡ Some phase → IsInTime w now t a before
off_in_time w now t phase a before off at r out is has reads =
    let h = in_phase a r out t phase before is at has in
    absurd (no_both (reads_clock_next w r t) reads (off_asks w r t phase before reads_clock off h))

-- ---- a request that was done

pub requested_made : (w : World) (tried : Attempt Move) (now t : ℕ) (old new : ProgramState) (before after : List Frame) → IsInTime w now t old before
    → IsRequested w tried t old before new after → IsMade w tried now t old before new after
requested_made w (Made made) now t old new before after in_time h = (h, in_time)
requested_made w LacksThreads now t old new before after in_time h = h
requested_made w ReadsClock now t old new before after in_time h = absurd h

pub requested_stays : (w : World) (tried : Attempt Move) (t : ℕ) (old new : ProgramState) (before after : List Frame) (m n : Continuation)
    → IsRequested w tried t old before new after → StaysIfReading tried m n
requested_stays w (Made made) t old new before after m n h = tt
requested_stays w LacksThreads t old new before after m n h = tt
requested_stays w ReadsClock t old new before after m n h = absurd h

-- ---- a step that picks a thread

picking_reads : (r q : State) (t u : ℕ) (x : Request × Asking) → asked_with r t x.1 u x.0 ≡ Some q → reads_clock x.0 ≡ true → ⊥
picking_reads r q t u (request, a) = by request
  where
    by : (request : Request) → asked_with r t a u request ≡ Some q → reads_clock request ≡ true → ⊥
    by (requests.notifies o) e f = absurd cc
    by request e f = absurd cc

-- one that reads the clock picks none
pub reads_none : (w : World) (r q : State) (t : ℕ) (pick : Option ℕ) → step_with w t pick r ≡ Some q → reads_clock_next w r t ≡ true → pick ≡ None
reads_none w r q t None makes reads = refl
reads_none w r q t (Some u) makes reads =
    let x = some_is (asking_at w r t) (λ (x : Request × Asking). asked_with r t x.1 u x.0) q makes in
    let asked : reads_clock (x.0).0 ≡ true = sym (ap (λ o. option_map_or (λ (y : Request × Asking). reads_clock y.0) o false) x.1) ∙ reads in
    absurd (picking_reads r q t u x.0 x.2 asked)
