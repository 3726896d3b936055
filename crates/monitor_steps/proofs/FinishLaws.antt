-- The step of a thread that is in line for a monitor, and the call of a synchronized method whose monitor is taken.
use Rattle.std.proofs.Common.{◌≡◌, ℕ, Bool, true, false, drop, List, ◌∷◌, Option, Some, None, refl, ap, sym, subst, ◌∙◌}
use Rattle.std.specs.Prelude.{if◌then◌else◌, is_none, slice_get, slice_set}
use Rattle.std.proofs.lemmas.List.{set-set}
use Rattle.items.specs.Options.{◌>>=◌}
use Rattle.items.proofs.Binds.{bind_is}
use Rattle.wakes.specs.Flags.{Flags}
use Rattle.vthread_state.specs.declared.phase.Phase.{Phase}
use Rattle.vthread_state.specs.declared.phase.Phase.TheVariants.{Run, Entering, Reenter}
use Rattle.vthread_state.specs.declared.phase.Wake.{Wake}
use Rattle.vthread_state.specs.declared.phase.Wake.TheVariants.{Notified, TimedOut, Interrupted}
use Rattle.vthread_state.specs.declared.thread.Status.TheVariants.{Live}
use Rattle.vthread_state.specs.Threads.{status_at}
use Rattle.link_model.specs.World.{World}
use Rattle.state_model.specs.Frames.{Frame}
use Rattle.continuation.specs.Continuation.{Continuation}
use Rattle.frames.specs.Frames.{top_stack, with_stack}
use Rattle.invocation.specs.declared.synchronized_calls.SynchronizedCall.{SynchronizedCall}
use Rattle.invocation.specs.SynchronizedCalls.{IsBegun}
use Rattle.invocation.specs.Targets.{callee_frame}
use Rattle.monitors.specs.Monitors.{IsInLine, monitor_of}
use Rattle.ref_model.specs.declared.exception.Exception.TheVariants as exceptions
use Rattle.ref_model.specs.Asking.{Asking, goes, goes_into, thrown_interrupted, waits, with_run}
use Rattle.ref_model.specs.Monitors.{entered_once, with_entry, with_monitor}
use Rattle.ref_model.specs.Requesting.{asked}
use Rattle.ref_model.specs.Requests.{Request, calls, enters, request_of, waits_on}
use Rattle.ref_model.specs.Resuming.{asking_in, entered_with, finished_asking, is_first_entry, resumed, waited}
use Rattle.ref_model.specs.State.{JavaThread, State, with_frames, with_owner, with_status}
use Rattle.ref_model.specs.Step.{event_step, phase_step, row_or_event}
use Rattle.ref_model.specs.Throwing.{raised}
use Rattle.ref_model.proofs.StateLaws.{get_set}
use Rattle.schedule_soundness.specs.PutLaws.{OthersStay}
use Rattle.schedule_soundness.proofs.ThreadLists.{set_other}
use Rattle.thread_steps.specs.declared.parts.Parts.{Parts}
use Rattle.thread_steps.specs.declared.progress.PendingRequest.{PendingRequest}
use Rattle.thread_steps.specs.Asking.{asking_of}
use Rattle.thread_steps.specs.States.{memory_of}
use Rattle.program_state.specs.declared.state.ProgramState.{ProgramState}
use Rattle.program_state.specs.Replies.{GoesOnWithout}
use Rattle.program_state.specs.Replying.{IsRaised}
use Rattle.program_state.specs.Requests.{IsPending}
use Rattle.program_state.specs.Running.{IsCallPending, Stays}
use Rattle.program_state.specs.States.{IsInPhase, IsState}
use Rattle.program_state.specs.Steps.{Leads, PutsNobody, StepsTo, keeps_monitor, leaves_others}
use Rattle.program_state.specs.Waking.{IsInterruptTaken}
use Rattle.program_state.proofs.FlagLaws.{flags_put, interrupt_flags}
use Rattle.program_state.proofs.ReplyLaws.{frames_leave, goes_concluded}
use Rattle.program_state.proofs.RequestLaws.{event_asks}
use Rattle.program_state.proofs.StateLaws.{frames_had, other_frames, others_same, others_then, thread_is}
use Rattle.program_state.proofs.StepLaws.{phase_in_table}
use Rattle.program_state.proofs.WaitEndLaws.{raised_alike}
use Rattle.monitor_steps.specs.declared.line.AfterEntry.{AfterEntry}
use Rattle.monitor_steps.specs.declared.line.AfterEntry.TheVariants as entries
use Rattle.monitor_steps.specs.declared.line.Line.{Line}
use Rattle.monitor_steps.specs.Entries.{EntersTo, StepsInLine, TakesTo, after_wake, line_in, may_line_up, with_taken}
use Rattle.monitor_steps.proofs.AnswerLaws.{entry_others, same_phase, status_frames, status_others}
use Rattle.monitor_steps.proofs.ExitLaws.{monitor_step, owner_now}
use Rattle.monitor_steps.proofs.StateMoves.{with_status_as}

-- ---- the step of a thread in line

-- the state in which it has the monitor
abbrev given : State → ℕ → Line → State
given r t line = with_owner r line.monitor (Some (record { thread = t; count = line.count }))

abbrev goes_in : World → State → ℕ → List Frame → AfterEntry → Option State
goes_in w q t frames entries.Begins = Some (with_run q t)
goes_in w q t frames entries.Resumes = resumed w q t frames
goes_in w q t frames entries.Throws = thrown_interrupted w q t

entered_so : (w : World) (q : State) (t : ℕ) (frames : List Frame) (first : Bool)
    → (if first then Some (with_run q t) else resumed w q t frames) ≡ goes_in w q t frames (if first then entries.Begins else entries.Resumes)
entered_so w q t frames true = refl
entered_so w q t frames false = refl

waited_so : (w : World) (q : State) (t : ℕ) (frames : List Frame) (wake : Wake) → waited w q t wake frames ≡ goes_in w q t frames (after_wake wake)
waited_so w q t frames Notified = refl
waited_so w q t frames TimedOut = refl
waited_so w q t frames Interrupted = refl

line_step : (w : World) (r : State) (t : ℕ) (phase : Phase) (frames : List Frame) (line : Line) → line_in phase frames ≡ Some line → r.owners line.monitor ≡ None
    → phase_step w r t frames phase ≡ goes_in w (given r t line) t frames line.then_goes
line_step w r t (Entering o) frames line e =
    let first : Line = record { monitor = o; count = 1; then_goes = if is_first_entry o frames then entries.Begins else entries.Resumes } in
    let same : first ≡ line = cc in
    subst (λ (l : Line). r.owners l.monitor ≡ None → phase_step w r t frames (Entering o) ≡ goes_in w (given r t l) t frames l.then_goes) same
    (λ free. ap (λ k. entered_with w (with_owner r o (Some (entered_once t k))) t o frames) free ∙ entered_so w (given r t first) t frames (is_first_entry o frames))
line_step w r t (Reenter o count wake) frames line e =
    let back : Line = record { monitor = o; count = count; then_goes = after_wake wake } in
    let same : back ≡ line = cc in
    subst (λ (l : Line). r.owners l.monitor ≡ None → phase_step w r t frames (Reenter o count wake) ≡ goes_in w (given r t l) t frames l.then_goes) same
    (λ free. waited_so w (given r t back) t frames wake)
line_step w r t phase frames line e = absurd cc

goes_as : (w : World) (r : State) (t : ℕ) (phase : Phase) (frames : List Frame) (line : Line) (entry : AfterEntry) → line_in phase frames ≡ Some line → r.owners line.monitor ≡ None → line.then_goes ≡ entry
    → phase_step w r t frames phase ≡ goes_in w (given r t line) t frames entry
goes_as w r t phase frames line entry lined free goes = line_step w r t phase frames line lined free ∙ ap (goes_in w (given r t line) t frames) goes

-- what follows leaves others, and the monitor is owned
given_others : (t : ℕ) (line : Line) (r q : State) → OthersStay t (given r t line) q → PutsNobody t r q
given_others t line r q others =
    keeps_monitor line.monitor (monitor_step t line.monitor (Some (record { thread = t; count = line.count })) r (given r t line) q refl refl refl others)
    (ap is_none (owner_now line.monitor (Some (record { thread = t; count = line.count })) r (given r t line) q t refl others))

run_phase : (r : State) (t : ℕ) (phase : Phase) (frames : List Frame) → IsInPhase r t phase frames → IsInPhase (with_run r t) t Run frames
run_phase r t phase frames at =
    let y : JavaThread = with_status_as (Live Run) at.thread in
    subst (λ q. IsInPhase q t Run frames) (sym (thread_is r t (with_status_as (Live Run)) at.thread at.at))
    (record { thread = y; at = get_set r.threads t at.thread y at.at; status = refl; has = at.has })

-- ---- it begins

pub line_begins : (w : World) (t : ℕ) (line : Line) (old new : ProgramState) (before : List Frame) → line.then_goes ≡ entries.Begins → TakesTo t line old new → StepsInLine w line t old before new before
line_begins w t line old new before begins takes phase lined r out is here at =
    let g = takes r out phase before is here at lined in
    let own = same_phase r (given r t line) t phase before refl at in
    record {
      next = with_taken r t line;
      makes = goes_as w r t phase before line entries.Begins lined g.free begins;
      is = g.is;
      has = status_frames (given r t line) t Run before phase own;
      others = given_others t line r (with_taken r t line) (status_others (given r t line) t Run before phase own);
    }

-- ---- it finishes its instruction

finishes : (r : State) (t : ℕ) (k : Asking) (request : Request) → may_line_up request ≡ true → finished_asking r t k request ≡ goes r t k
finishes r t k (enters o) e = refl
finishes r t k (waits_on o time) e = refl
finishes r t k request e = absurd cc

-- by an act on the state in which it runs
line_resumes : (w : World) (t : ℕ) (line : Line) (old mid new : ProgramState) (before after : List Frame) (act : State → Option State) → line.then_goes ≡ entries.Resumes → TakesTo t line old mid
    → ((r : State) (s : State) → memory_of old.memory ≡ r.memory → (asking_in w r.memory before >>= λ x. finished_asking s t x.1 x.0) ≡ act s)
    → ((s : State) (out : ℕ → Bool) → IsState mid s out → out t ≡ true → IsInPhase s t Run before → Leads act (OthersStay t) new t after s out)
    → StepsInLine w line t old before new after
line_resumes w t line old mid new before after act resumes takes asks leads phase lined r out is here at =
    let g = takes r out phase before is here at lined in
    let own = same_phase r (given r t line) t phase before refl at in
    let s : State = with_taken r t line in
    let l = leads s out g.is here (run_phase (given r t line) t phase before own) in
    record {
      next = l.next;
      makes = goes_as w r t phase before line entries.Resumes lined g.free resumes ∙ asks r s is.memory ∙ l.makes;
      is = l.is;
      has = l.has;
      others = given_others t line r l.next (others_then t (given r t line) s l.next (status_others (given r t line) t Run before phase own) l.others);
    }

pub request_resumes : (w : World) (q : PendingRequest) (t : ℕ) (line : Line) (old new : ProgramState) (before after : List Frame) → line.then_goes ≡ entries.Resumes → TakesTo t line old new
    → IsPending w q old.memory before → may_line_up (request_of q.request) ≡ true → GoesOnWithout q before after → StepsInLine w line t old before new after
request_resumes w q t line old new before after resumes takes p waits goes_on =
    let k : Asking = asking_of q p.frame p.below in
    line_resumes w t line old new new before after (λ s. goes s t k) resumes takes
    (λ r s same. bind_is (asking_in w r.memory before) (λ (x : Request × Asking). finished_asking s t x.1 x.0) (request_of q.request, k) (goes s t k)
    (ap (λ m. asking_in w m before) (sym same) ∙ p.asks.asking) (finishes s t k (request_of q.request) waits))
    (λ s out is here runs. goes_concluded w q t new before after goes_on s out p.frame p.below is here runs p.top)

-- ---- it goes into a method

-- the frames in which a call went into its method
into_frames : (call : SynchronizedCall) (m n : Continuation) (f g : Frame) (below : List Frame) → IsBegun call m n → m.stack.frames ≡ f ∷ below
    → callee_frame call.callee f.stack ≡ Some g → n.stack.frames ≡ with_monitor g call.monitor ∷ record f { stack = drop call.callee.slots f.stack } ∷ below
into_frames call m n f g below begun top callee =
    begun g (ap (λ fs. callee_frame call.callee (top_stack fs)) top ∙ callee)
    ∙ ap (λ fs. with_monitor g call.monitor ∷ with_stack (drop call.callee.slots (top_stack fs)) fs) top

into_leads : (t : ℕ) (k : Asking) (g : Frame) (new : ProgramState) (before after : List Frame) → after ≡ g ∷ record k.frame { stack = k.stack } ∷ k.below
    → (s : State) (out : ℕ → Bool) → IsState new s out → out t ≡ true → IsInPhase s t Run before → Leads (λ q. goes_into q t k g) (OthersStay t) new t after s out
into_leads t k g new before after frames s out is here at =
    record {
      next = with_frames s t after;
      makes = ap (λ fs. Some (with_frames s t fs)) (sym frames);
      is = other_frames new s out t after is here;
      has = frames_had s t at.thread after at.at;
      others = frames_leave s t at.thread after at.at;
    }

pub call_resumes : (w : World) (call : SynchronizedCall) (t : ℕ) (line : Line) (old new : ProgramState) (m n : Continuation) → line.then_goes ≡ entries.Resumes → TakesTo t line old new
    → IsCallPending w call old.memory m.stack.frames → IsBegun call m n → StepsInLine w line t old m.stack.frames new n.stack.frames
call_resumes w call t line old new m n resumes takes p begun =
    let c = p.calls in
    let k : Asking = record { frame = p.frame; below = p.below; next = c.next; stack = drop call.callee.slots p.frame.stack } in
    let g : Frame = with_monitor c.callee call.monitor in
    let before : List Frame = m.stack.frames in
    line_resumes w t line old new new before n.stack.frames (λ s. goes_into s t k g) resumes takes
    (λ r s same. bind_is (asking_in w r.memory before) (λ (x : Request × Asking). finished_asking s t x.1 x.0) (calls call.monitor g, k) (goes_into s t k g)
    (ap (λ mem. asking_in w mem before) (sym same) ∙ c.asking) refl)
    (into_leads t k g new before n.stack.frames (into_frames call m n p.frame c.callee p.below begun p.top c.begins))

-- ---- it throws

pub line_throws : (w : World) (t : ℕ) (line : Line) (old mid new : ProgramState) (flags : Flags) (had : Bool) (before : List Frame) → line.then_goes ≡ entries.Throws → TakesTo t line old mid
    → IsInterruptTaken t had mid.wakes flags → IsRaised w exceptions.InterruptedException t (record mid { wakes = flags }) new → StepsInLine w line t old before new before
line_throws w t line old mid new flags had before throws takes taken raises phase lined r out is here at =
    let g = takes r out phase before is here at lined in
    let q : State = given r t line in
    let x : JavaThread = at.thread in
    let y : JavaThread = with_status_as (Live Run) x in
    let z : JavaThread = record y { interrupted = false } in
    let run : State = record q { threads = slice_set r.threads t y } in
    let calm : State = record q { threads = slice_set r.threads t z } in
    let runs : IsState mid run out = subst (λ s. IsState mid s out) (thread_is q t (with_status_as (Live Run)) x at.at) g.is in
    let there : slice_get (slice_set r.threads t y) t ≡ Some y = get_set r.threads t x y at.at in
    let f = interrupt_flags mid flags run out t y false runs there taken.after in
    let put : IsState (record mid { wakes = flags }) calm out =
    subst (λ ts. IsState (record mid { wakes = flags }) (record q { threads = ts }) out) (set-set r.threads t y z)
    (flags_put mid flags run out t y z runs there refl refl f.permits f.interrupts) in
    let l = raises calm out before put here (record { thread = z; at = get_set r.threads t x z at.at; status = refl; has = at.has }) in
    record {
      next = l.next;
      makes = goes_as w r t phase before line entries.Throws lined g.free throws
          ∙ ap (λ s. raised w s t exceptions.InterruptedException) (thread_is q t (λ k. record k { interrupted = false }) x at.at)
          ∙ raised_alike w q t x (record x { interrupted = false }) z exceptions.InterruptedException at.at (λ status. refl) ∙ l.makes;
      is = l.is;
      has = l.has;
      others = given_others t line r l.next (others_then t q calm l.next (others_same t q calm (λ u ne. set_other r.threads t u z ne) refl refl) l.others);
    }

-- ---- a thread that runs calls

pub call_pending : (w : World) (call : SynchronizedCall) (a : Parts) (frames : List Frame) (r : State) (t : ℕ) (p : IsCallPending w call a frames) → memory_of a ≡ r.memory
    → phase_step w r t frames Run ≡ asked w r t (record { frame = p.frame; below = p.below; next = p.calls.next; stack = drop call.callee.slots p.frame.stack })
    (calls call.monitor (with_monitor p.calls.callee call.monitor))
call_pending w call a frames r t p same =
    let x : Request × Asking = (calls call.monitor (with_monitor p.calls.callee call.monitor), record { frame = p.frame; below = p.below; next = p.calls.next; stack = drop call.callee.slots p.frame.stack }) in
    let asking : asking_in w r.memory (p.frame ∷ p.below) ≡ Some x = ap (λ m. asking_in w m (p.frame ∷ p.below)) (sym same) ∙ ap (asking_in w (memory_of a)) (sym p.top) ∙ p.calls.asking in
    ap (row_or_event w r t frames) p.calls.event ∙ ap (event_step w r t) p.top ∙ event_asks w r t p.frame p.below x asking

pub call_goes : (w : World) (call : SynchronizedCall) (t : ℕ) (old new : ProgramState) (m n : Continuation) → EntersTo t call.monitor old new true → IsCallPending w call old.memory m.stack.frames
    → IsBegun call m n → StepsTo w (PutsNobody t) Run t old m.stack.frames new n.stack.frames
call_goes w call t old new m n entered p begun r out is here at =
    let c = p.calls in
    let o : ℕ = call.monitor in
    let k : Asking = record { frame = p.frame; below = p.below; next = c.next; stack = drop call.callee.slots p.frame.stack } in
    let g : Frame = with_monitor c.callee o in
    let e = entered r out m.stack.frames is here at in
    let l = into_leads t k g new m.stack.frames n.stack.frames (into_frames call m n p.frame c.callee p.below begun p.top c.begins) (with_entry r t o) out e.is here
    (same_phase r (with_entry r t o) t Run m.stack.frames refl at) in
    record {
      next = l.next;
      makes = call_pending w call old.memory m.stack.frames r t p is.memory ∙ ap (λ b. if b then goes_into (with_entry r t o) t k g else waits r t (Entering o)) e.may ∙ l.makes;
      is = l.is;
      has = l.has;
      others = entry_others t o r l.next l.others;
    }

pub call_waits : (w : World) (call : SynchronizedCall) (t : ℕ) (old new : ProgramState) (before : List Frame) → EntersTo t call.monitor old new false → IsCallPending w call old.memory before
    → StepsTo w (PutsNobody t) Run t old before new before
call_waits w call t old new before entered p r out is here at =
    let c = p.calls in
    let o : ℕ = call.monitor in
    let k : Asking = record { frame = p.frame; below = p.below; next = c.next; stack = drop call.callee.slots p.frame.stack } in
    let g : Frame = with_monitor c.callee o in
    let e = entered r out before is here at in
    record {
      next = with_status r t (Live (Entering o));
      makes = call_pending w call old.memory before r t p is.memory ∙ ap (λ b. if b then goes_into (with_entry r t o) t k g else waits r t (Entering o)) e.may_not;
      is = e.is;
      has = status_frames r t (Entering o) before Run at;
      others = leaves_others (status_others r t (Entering o) before Run at);
    }

-- ---- whatever it was in line for

pub line_stays : (line : Line) (a b : ProgramState) (m n : Continuation) → Stays a m b n → IsInLine m.thread (monitor_of a.monitors line.monitor) → IsInLine n.thread (monitor_of b.monitors line.monitor)
line_stays line a b m n stays lined =
    subst (λ (k : Continuation). IsInLine k.thread (monitor_of b.monitors line.monitor)) (sym stays.mounted)
    (subst (λ (s : ProgramState). IsInLine m.thread (monitor_of s.monitors line.monitor)) (sym stays.state) lined)

pub any_phase : (w : World) (line : Line) (t : ℕ) (old new : ProgramState) (before after : List Frame) (own : Phase) → status_at old.threads t ≡ Some (Live own) → line_in own before ≡ Some line
    → StepsInLine w line t old before new after → (phase : Phase) → StepsTo w (PutsNobody t) phase t old before new after
any_phase w line t old new before after own told lined steps phase r out is here at =
    let both : Some (Live own) ≡ Some (Live phase) = sym told ∙ phase_in_table old r out t phase before is at in
    let same : own ≡ phase = cc in
    steps phase (subst (λ p. line_in p before ≡ Some line) same lined) r out is here at
