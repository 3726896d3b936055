-- From what a step does on each stage to what it makes of the state of a program.
use Rattle.std.proofs.Common.{◌≡◌, ◌==◌, ℕ, Bool, true, false, List, [], ◌∷◌, Option, Some, None, Result, Ok, Err, refl, ap, sym, subst, ◌∙◌}
use Rattle.std.specs.Prelude.{IfOk, OnOk, slice_get, slice_set}
use Rattle.std.specs.Option.{option_map}
use Rattle.std.proofs.lemmas.Bool.{eqb-true}
use Rattle.vthread_state.specs.declared.phase.Phase.{Phase}
use Rattle.vthread_state.specs.declared.phase.Phase.TheVariants.{Run, Throwing}
use Rattle.vthread_state.specs.declared.thread.Status.{Status}
use Rattle.vthread_state.specs.declared.thread.Status.TheVariants.{New, Live, Done}
use Rattle.vthread_state.specs.declared.thread.Thread.{Thread}
use Rattle.vthread_state.specs.declared.thread.ThreadKind.TheVariants.{Platform}
use Rattle.vthread_state.specs.Threads.{Threads, status_at, thread_at, with_status}
use Rattle.link_model.specs.World.{World}
use Rattle.verify_types.specs.Environment.{Instruction}
use Rattle.state_model.specs.Frames.{Frame}
use Rattle.continuation.specs.Continuation.{Continuation}
use Rattle.ref_model.specs.Fetch.{fetched}
use Rattle.ref_model.specs.Looks.{deadline_in, phase_deadline}
use Rattle.ref_model.specs.State.{JavaThread, State}
use Rattle.ref_model.specs.Step.{phase_step}
use Rattle.ref_model.proofs.StateLaws.{get_set, set_same}
use Rattle.schedule_soundness.specs.PutLaws.{OthersStay}
use Rattle.schedule_soundness.proofs.ThreadLists.{set_other}
use Rattle.thread_steps.specs.declared.parts.Parts.{Parts}
use Rattle.thread_steps.specs.States.{Stage, memory_of, own_thread, state_of}
use Rattle.thread_steps.specs.Concluding.{Steps}
use Rattle.thread_steps.specs.Returning.{ThrowProceeds, ThrowingSteps}
use Rattle.thread_steps.specs.declared.throwing.MonitorThrow.{MonitorThrow}
use Rattle.thread_steps.specs.declared.throwing.Thrown.TheVariants.{Holds}
use Rattle.program_state.specs.declared.state.ProgramState.{ProgramState}
use Rattle.program_state.specs.Running.{HasStepped, StandsAt}
use Rattle.program_state.specs.Settling.{IsSettled, is_running_status, is_stepped, throws_status}
use Rattle.program_state.proofs.MonitorLaws.{plain_lists}
use Rattle.program_state.specs.States.{HasFrames, IsInPhase, IsState, is_plain_phase, is_plain_status, is_started}
use Rattle.program_state.specs.Steps.{Leads, StepsTo}
use Rattle.program_state.specs.Throwing.{HoldsMonitor}
use Rattle.program_state.proofs.StateLaws.{still_out, rows_set, thread_changed, others_same, row_there}

-- ---- results

-- what holds on success leads to another fact
pub on_ok : {A E : Type 0} {X Y : Type 0} (r : Result A E) → OnOk r X → (X → Y) → OnOk r Y
on_ok (Ok x) is f = f is
on_ok (Err e) is f = tt

-- the same of what holds of the value
pub if_ok : {A E : Type 0} (P Q : A → Type 0) (r : Result A E) → IfOk r P → ((x : A) → P x → Q x) → IfOk r Q
if_ok P Q (Ok x) is f = f x is
if_ok P Q (Err e) is f = tt

-- ---- statuses after a step

pub stepped_plain : (status : Status) → is_stepped status ≡ true → is_plain_status status ≡ true
stepped_plain New e = absurd cc
stepped_plain (Live Run) e = refl
stepped_plain (Live (Throwing o)) e = refl
stepped_plain (Live phase) e = absurd cc
stepped_plain Done e = refl

pub stepped_timeless : (status : Status) → is_stepped status ≡ true → deadline_in status ≡ None
stepped_timeless New e = refl
stepped_timeless (Live Run) e = refl
stepped_timeless (Live (Throwing o)) e = refl
stepped_timeless (Live phase) e = absurd cc
stepped_timeless Done e = refl

pub stepped_started : (status : Status) → is_stepped status ≡ true → is_started status ≡ true
stepped_started New e = absurd cc
stepped_started (Live phase) e = refl
stepped_started Done e = refl

pub running_is : (status : Status) → is_running_status status ≡ true → status ≡ Live Run
running_is New e = absurd cc
running_is (Live Run) e = refl
running_is (Live phase) e = absurd cc
running_is Done e = absurd cc

throws_so : (o thrown : ℕ) → (thrown == o) ≡ true → Live (Throwing thrown) ≡ Live (Throwing o)
throws_so o thrown e = ap (λ k. Live (Throwing k)) (eqb-true thrown o e)

pub throwing_is : (o : ℕ) (status : Status) → throws_status o status ≡ true → status ≡ Live (Throwing o)
throwing_is o New e = absurd cc
throwing_is o (Live (Throwing thrown)) e = throws_so o thrown e
throwing_is o (Live phase) e = absurd cc
throwing_is o Done e = absurd cc

-- ---- the stage of a thread of the state

abbrev pub stage_of : (r : State) (t : ℕ) (phase : Phase) (frames : List Frame) → IsInPhase r t phase frames → Stage
stage_of r t phase frames at = record { state = r; number = t; thread = at.thread; there = at.at }

-- its state, where the parts are those of the state, with the thread's status
pub stage_is : (a : ProgramState) (r : State) (out : ℕ → Bool) (t : ℕ) (phase : Phase) (frames : List Frame) (is : IsState a r out) (at : IsInPhase r t phase frames) (b : Parts)
    → memory_of b ≡ memory_of a.memory → b.main_threw ≡ a.memory.main_threw → b.status ≡ Live phase → state_of (stage_of r t phase frames at) b frames ≡ r
stage_is a r out t phase frames is at b memory threw status =
    let own : own_thread (stage_of r t phase frames at) b frames ≡ at.thread =
    λ i. record at.thread { thread = record at.thread.thread { status = (status ∙ sym at.status) i }; frames = sym at.has i } in
    let threads : slice_set r.threads t (own_thread (stage_of r t phase frames at) b frames) ≡ r.threads =
    ap (slice_set r.threads t) own ∙ set_same r.threads t at.thread at.at in
    λ i. record r { memory = (memory ∙ is.memory) i; main_threw = (threw ∙ is.main_threw) i; threads = threads i }

-- ---- one step of the thread of a stage

-- The parts that the step left, and the thread with the status that it left, are those of the state after it.
pub stage_settled : (a new : ProgramState) (r : State) (out : ℕ → Bool) (t : ℕ) (phase : Phase) (before after : List Frame) (is : IsState a r out) (at : IsInPhase r t phase before) (b : Parts)
    → out t ≡ true → phase_deadline phase ≡ None → is_plain_phase phase ≡ true → IsSettled t (record a { memory = b }) new → IsState new (state_of (stage_of r t phase before at) b after) out
stage_settled a new r out t phase before after is at b here timeless plain settled =
    let x : JavaThread = at.thread in
    let y : JavaThread = own_thread (stage_of r t phase before at) b after in
    let table : Threads = with_status a.threads t b.status in
    let rows = rows_set a.threads r t x y (λ thread. record thread { status = b.status }) is.rows at.at refl in
    let changed = thread_changed a (record b { status = Live Run }) table r out t x y is at.at refl rows refl
    (record {
      lists = plain_lists x.thread.status b.status (ap is_plain_status at.status ∙ plain) (stepped_plain b.status settled.stepped);
      permit = refl;
      interrupted = refl;
      deadline = stepped_timeless b.status settled.stepped ∙ sym (ap deadline_in at.status ∙ timeless);
    })
    (still_out t (out t) x y (slice_get a.frozen.items t) here (stepped_started b.status settled.stepped)) in
    subst (λ s. IsState s (state_of (stage_of r t phase before at) b after) out) (sym settled.state) changed

pub stage_others : (r : State) (t : ℕ) (phase : Phase) (before after : List Frame) (at : IsInPhase r t phase before) (b : Parts)
    → OthersStay t r (state_of (stage_of r t phase before at) b after)
stage_others r t phase before after at b =
    others_same t r (state_of (stage_of r t phase before at) b after)
    (λ u ne. set_other r.threads t u (own_thread (stage_of r t phase before at) b after) ne) refl refl

pub stage_has : (r : State) (t : ℕ) (phase : Phase) (before after : List Frame) (at : IsInPhase r t phase before) (b : Parts)
    → HasFrames (state_of (stage_of r t phase before at) b after) t after
stage_has r t phase before after at b =
    let y : JavaThread = own_thread (stage_of r t phase before at) b after in
    record { thread = y; at = get_set r.threads t at.thread y at.at; has = refl }

-- A step that leads from the state of a stage to another of its states, after which the thread runs, throws or is done.
pub stage_leads : (act : State → Option State) (a new : ProgramState) (r : State) (out : ℕ → Bool) (t : ℕ) (phase : Phase) (before after : List Frame) (is : IsState a r out)
    (at : IsInPhase r t phase before) (first b : Parts) → memory_of first ≡ memory_of a.memory → first.main_threw ≡ a.memory.main_threw → first.status ≡ Live phase
    → out t ≡ true → phase_deadline phase ≡ None → is_plain_phase phase ≡ true → act (state_of (stage_of r t phase before at) first before) ≡ Some (state_of (stage_of r t phase before at) b after) → IsSettled t (record a { memory = b }) new
    → Leads act (OthersStay t) new t after r out
stage_leads act a new r out t phase before after is at first b memory threw status here timeless plain made settled =
    record {
      next = state_of (stage_of r t phase before at) b after;
      makes = ap act (sym (stage_is a r out t phase before is at first memory threw status)) ∙ made;
      is = stage_settled a new r out t phase before after is at b here timeless plain settled;
      has = stage_has r t phase before after at b;
      others = stage_others r t phase before after at b;
    }

abbrev pub option_status : Option Thread → Option Status
option_status o = option_map (λ (thread : Thread). thread.status) o

-- ---- the table is written only where the status has changed

threads_same : (table : Threads) (t : ℕ) (status : Status) → status_at table t ≡ Some status → with_status table t status ≡ table
threads_same table t status e = by (thread_at table t) refl e
  where
    by : (o : Option Thread) → thread_at table t ≡ o → option_status o ≡ Some status → with_status table t status ≡ table
    by None at is = absurd cc
    by (Some x) at is =
        let same : x.status ≡ status = cc in
        let row : record x { status = status } ≡ x = λ i. record x { status = sym same i } in
        rw at (ap (λ ts. record table { threads = ts }) (ap (slice_set table.threads t) row ∙ set_same table.threads t x at))

pub settled_same : (a : ProgramState) (t : ℕ) → a.memory.status ≡ Live Run → status_at a.threads t ≡ Some (Live Run) → IsSettled t a a
settled_same a t run at =
    record {
      stepped = ap is_stepped run;
      state = λ i. record a {
        memory = record a.memory { status = run i };
        threads = (sym (threads_same a.threads t (Live Run) at) ∙ ap (with_status a.threads t) (sym run)) i;
      };
    }

pub thrown_same : (a : ProgramState) (t o : ℕ) → a.memory.status ≡ Live (Throwing o) → status_at a.threads t ≡ Some (Live (Throwing o))
    → IsSettled t a (record a { memory = record a.memory { status = Live Run } })
thrown_same a t o throws at =
    record {
      stepped = ap is_stepped throws;
      state = λ i. record a {
        memory = record a.memory { status = Live Run };
        threads = (sym (threads_same a.threads t (Live (Throwing o)) at) ∙ ap (with_status a.threads t) (sym throws)) i;
      };
    }

-- the status of a thread of the state, in the table
pub phase_in_table : (a : ProgramState) (r : State) (out : ℕ → Bool) (t : ℕ) (phase : Phase) (frames : List Frame) → IsState a r out → IsInPhase r t phase frames
    → status_at a.threads t ≡ Some (Live phase)
phase_in_table a r out t phase frames is at =
    ap option_status (row_there a.threads r t at.thread is.rows at.at) ∙ ap Some at.status

-- ---- an instruction

pub run_steps : (w : World) (i : Instruction) (a new : ProgramState) (b : Parts) (t : ℕ) (frames after : List Frame) (f : Frame) (below : List Frame) → frames ≡ f ∷ below → fetched w f ≡ Some i
    → Steps w i a.memory frames b after → (status_at a.threads t ≡ Some (Live Run) → IsSettled t (record a { memory = b }) new)
    → StepsTo w (OthersStay t) Run t a frames new after
run_steps w i a new b t frames after f below top fetch steps settled r out is here at =
    stage_leads (λ s. phase_step w s t frames Run) a new r out t Run frames after is at a.memory b refl refl is.status here refl refl
    (steps (stage_of r t Run frames at) f below top fetch).step (settled (phase_in_table a r out t Run frames is at))

-- a stage, of one thread
any_stage : Stage
any_stage = record {
  state = record {
    memory = record { heap = []; room = 0; statics = []; out = []; err = []; exited = None };
    threads = any_thread ∷ [];
    most_threads = 0;
    unnamed = 0;
    owners = λ o. None;
    now = 0;
    main_threw = false;
  };
  number = 0;
  thread = any_thread;
  there = refl;
}
  where
    any_thread : JavaThread
    any_thread = record {
      thread = record { kind = Platform; daemon = false; object = 0; name = 0; status = New };
      permit = false;
      interrupted = false;
      frames = [];
    }

pub has_stepped : (w : World) (i : Instruction) (a new : ProgramState) (b : Parts) (m n : Continuation) (f : Frame) (below : List Frame) → m.stack.frames ≡ f ∷ below → StandsAt w i m.stack.frames
    → Steps w i a.memory m.stack.frames b n.stack.frames → (status_at a.threads m.thread ≡ Some (Live Run) → IsSettled m.thread (record a { memory = b }) new) → HasStepped w a m new n
has_stepped w i a new b m n f below top at steps settled =
    record {
      steps = run_steps w i a new b m.thread m.stack.frames n.stack.frames f below top (at f below top) steps settled;
      quiet = (steps any_stage f below top (at f below top)).quiet;
    }

-- ---- an exception on its way

pub throw_steps : (w : World) (a new : ProgramState) (b : Parts) (t name o : ℕ) (own : Thread) (frames after : List Frame) → thread_at a.threads t ≡ Some own → own.name ≡ name
    → ThrowingSteps w t name o (record a.memory { status = Live (Throwing o) }) frames b after
    → (status_at a.threads t ≡ Some (Live (Throwing o)) → IsSettled t (record a { memory = b }) new)
    → StepsTo w (OthersStay t) (Throwing o) t a frames new after
throw_steps w a new b t name o own frames after there named steps settled r out is here at =
    stage_leads (λ s. phase_step w s t frames (Throwing o)) a new r out t (Throwing o) frames after is at (record a.memory { status = Live (Throwing o) }) b refl refl refl here refl refl
    (steps (stage_of r t (Throwing o) frames at) (record { number = refl; named = own_name })) (settled (phase_in_table a r out t (Throwing o) frames is at))
  where
    own_name : at.thread.thread.name ≡ name
    own_name = let there' = row_there a.threads r t at.thread is.rows at.at in let same : at.thread.thread ≡ own = cc in ap (λ (x : Thread). x.name) same ∙ named

-- it leaves a frame with its monitor first
pub throw_holds : (w : World) (q : MonitorThrow) (a : ProgramState) (b : Parts) (t name o : ℕ) (m n : Continuation)
    → ThrowProceeds w t name o (Holds q) (record a.memory { status = Live (Throwing o) }) m.stack.frames b n.stack.frames
    → HoldsMonitor w q o a m (record a { memory = record b { status = a.memory.status } }) n
throw_holds w q a b t name o m n held =
    record { throws = held.0; state = ap (λ (p : Parts). record a { memory = record p { status = a.memory.status } }) held.1; frames = held.2 }
