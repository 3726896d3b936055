-- What a reply makes of the thread that asked.
use Rattle.std.proofs.Common.{◌≡◌, ℕ, ◌≤◌, Bool, true, false, List, [], ◌∷◌, length, drop, Option, Some, None, refl, ap, sym, subst, ◌∙◌, arith, length-drop}
use Rattle.std.specs.Prelude.{slice_get, slice_set, nat_le, if◌then◌else◌}
use Rattle.std.specs.Global.{Vec}
use Rattle.std.proofs.lemmas.Bool.{le-leb}
use Rattle.items.specs.Options.{◌>>=◌}
use Rattle.items.proofs.Binds.{bind_is}
use Rattle.instruction_rows.specs.SlotEffect.{pushed}
use Rattle.instruction_rows.specs.declared.value.Slot.{Slot}
use Rattle.instruction_rows.specs.declared.value.Value.{Value}
use Rattle.vthread_state.specs.declared.phase.Phase.{Phase}
use Rattle.vthread_state.specs.declared.phase.Phase.TheVariants.{Run}
use Rattle.vthread_state.specs.declared.thread.Status.TheVariants.{Live}
use Rattle.vthread_state.specs.Threads.{Threads}
use Rattle.link_model.specs.World.{World}
use Rattle.state_model.specs.Frames.{Frame}
use Rattle.continuation.specs.Continuation.{Continuation}
use Rattle.frames.specs.Frames.{at_pc, top_room, top_stack, with_stack}
use Rattle.ref_model.specs.declared.exception.Exception.{Exception}
use Rattle.ref_model.specs.Asking.{goes}
use Rattle.ref_model.specs.Effects.{Effect, done, gives}
use Rattle.ref_model.specs.Frames.{behind}
use Rattle.ref_model.specs.Looks.{deadline_in, phase_deadline}
use Rattle.ref_model.specs.Memory.{Memory}
use Rattle.ref_model.specs.State.{JavaThread, State, with_frames, with_status as with_status_in}
use Rattle.ref_model.specs.Throwing.{raised}
use Rattle.ref_model.proofs.StateLaws.{get_set, frames_is}
use Rattle.heap_instructions.specs.declared.outcome.Outcome.TheVariants as outcomes
use Rattle.heap_instructions.specs.Operands.{operands, ChangesOperands, HasTop}
use Rattle.heap_instructions.specs.Outcomes.{IsGiven}
use Rattle.sleep_wheel.specs.declared.sleeper.Key.{Key}
use Rattle.sleep_wheel.specs.Sleepers.{Sleepers, sleeper_at}
use Rattle.schedule_soundness.specs.PutLaws.{OthersStay}
use Rattle.schedule_soundness.proofs.ThreadLists.{set_other}
use Rattle.thread_steps.specs.declared.parts.Parts.{Parts}
use Rattle.thread_steps.specs.declared.progress.PendingRequest.{PendingRequest}
use Rattle.thread_steps.specs.Concluding.{Raises}
use Rattle.program_state.specs.declared.reply.Reply.TheVariants as replies
use Rattle.program_state.specs.declared.state.ProgramState.{ProgramState}
use Rattle.program_state.specs.Deadlines.{HoldsDeadlines, coming_deadline, deadlines_of, key_at, later_than, with_deadline}
use Rattle.program_state.specs.Timers.{IsTimerSet}
use Rattle.program_state.specs.Replies.{Concludes, GoesOn, GoesOnWith, GoesOnWithout}
use Rattle.program_state.specs.Replying.{BeginsWait, IsRaised, IsWaiting}
use Rattle.program_state.specs.Settling.{IsSettled}
use Rattle.program_state.proofs.MonitorLaws.{monitors_kept, plain_lists}
use Rattle.program_state.specs.States.{IsInPhase, IsState, is_plain_status}
use Rattle.program_state.specs.Steps.{Leads}
use Rattle.program_state.proofs.StateLaws.{frames_had, interrupts_same, kept_put, other_frames, others_same, own_memory, permits_same, rows_set, still_out, thread_put}
use Rattle.program_state.proofs.StepLaws.{stage_leads, stage_of}

-- ---- the thread goes on

-- a frame goes on, where its operand stack has room
behind_is : (f : Frame) (next : ℕ) (stack : List Slot) → length stack ≤ f.room → behind f next stack ≡ Some (record f { pc = next; stack = stack })
behind_is f next stack held = by (nat_le (length stack) f.room) (le-leb (length stack) f.room held)
  where
    by : (b : Bool) → b ≡ true → (if b then Some (record f { pc = next; locals = f.locals; stack = stack }) else None) ≡ Some (record f { pc = next; stack = stack })
    by true e = refl
    by false e = absurd cc

pub frames_leave : (r : State) (t : ℕ) (x : JavaThread) (frames : List Frame) → slice_get r.threads t ≡ Some x → OthersStay t r (with_frames r t frames)
frames_leave r t x frames at =
    let y : JavaThread = record x { frames = frames } in
    subst (OthersStay t r) (sym (frames_is r t x frames at))
    (others_same t r (record r { threads = slice_set r.threads t y }) (λ u ne. set_other r.threads t u y ne) refl refl)

-- with an operand stack
pub gone_on : (a : ProgramState) (r : State) (out : ℕ → Bool) (t next : ℕ) (before after : List Frame) (f : Frame) (below : List Frame) (stack : List Slot) → IsState a r out
    → out t ≡ true → IsInPhase r t Run before → before ≡ f ∷ below → GoesOn next stack before after
    → Leads (λ s. behind f next stack >>= λ g. Some (with_frames s t (g ∷ below))) (OthersStay t) a t after r out
gone_on a r out t next before after f below stack is here at top goes =
    let g : Frame = record f { pc = next; stack = stack } in
    let last : after ≡ g ∷ below = goes.frames ∙ ap (λ fs. at_pc next (with_stack stack fs)) top in
    let room : length stack ≤ f.room = subst (λ fs. length stack ≤ top_room fs) top goes.room in
    record {
      next = with_frames r t after;
      makes = bind_is (behind f next stack) (λ g. Some (with_frames r t (g ∷ below))) g (Some (with_frames r t after)) (behind_is f next stack room)
          (ap (λ fs. Some (with_frames r t fs)) (sym last));
      is = other_frames a r out t after is here;
      has = frames_had r t at.thread after at.at;
      others = frames_leave r t at.thread after at.at;
    }

-- the operands that a request leaves, of these frames
left_operands : (q : PendingRequest) (before : List Frame) (f : Frame) (below : List Frame) → before ≡ f ∷ below → drop q.operands (top_stack before) ≡ drop q.operands f.stack
left_operands q before f below top = ap (λ fs. drop q.operands (top_stack fs)) top

pub goes_concluded : (w : World) (q : PendingRequest) (t : ℕ) (a : ProgramState) (before after : List Frame) → GoesOnWithout q before after → Concludes w q t replies.Goes a before a after
goes_concluded w q t a before after goes r out f below is here at top =
    gone_on a r out t q.next before after f below (drop q.operands f.stack) is here at top
    (subst (λ s. GoesOn q.next s before after) (left_operands q before f below top) goes)

pub gives_concluded : (w : World) (q : PendingRequest) (t : ℕ) (v : Value) (a : ProgramState) (before after : List Frame) → GoesOnWith q v before after
    → Concludes w q t (replies.Gives v) a before a after
gives_concluded w q t v a before after goes r out f below is here at top =
    gone_on a r out t q.next before after f below (pushed v (drop q.operands f.stack)) is here at top
    (subst (λ s. GoesOn q.next (pushed v s) before after) (left_operands q before f below top) goes)

-- ---- the frames in the code

pub went_without : (q : PendingRequest) (m n : Continuation) (after : List Frame) → HasTop m → operands n ≡ drop q.operands (operands m) → ChangesOperands m n → after ≡ at_pc q.next n.stack.frames
    → GoesOnWithout q m.stack.frames after
went_without q m n after top left only pc =
    record {
      room = omega (arith, length-drop q.operands (operands m), top.held);
      frames = pc ∙ ap (at_pc q.next) (only.frames ∙ ap (λ s. with_stack s m.stack.frames) left);
    }

no_memory : Memory
no_memory = record { heap = []; room = 0; statics = []; out = []; err = []; exited = None }

same_stack : (r s : Memory) (x y : List Slot) → ◌≡◌ {A = Option Effect} (Some (done r x)) (Some (done s y)) → x ≡ y
same_stack r s x y e = cc

room_same : (frames : List Frame) (stack : List Slot) → top_room (with_stack stack frames) ≡ top_room frames
room_same [] stack = refl
room_same (f ∷ below) stack = refl

pub went_with : (q : PendingRequest) (v : Value) (m n : Continuation) (after : List Frame) → IsGiven q.operands v m n outcomes.Done → ChangesOperands m n
    → length (top_stack n.stack.frames) ≤ top_room n.stack.frames → after ≡ at_pc q.next n.stack.frames → GoesOnWith q v m.stack.frames after
went_with q v m n after given only held pc =
    let stack : List Slot = pushed v (drop q.operands (operands m)) in
    let now : stack ≡ operands n = same_stack no_memory no_memory stack (operands n) (given no_memory (Some (gives no_memory v (drop q.operands (operands m)))) refl) in
    let frames : n.stack.frames ≡ with_stack stack m.stack.frames = only.frames ∙ ap (λ s. with_stack s m.stack.frames) (sym now) in
    record {
      room = subst (λ s. length s ≤ top_room m.stack.frames) (sym now)
          (subst (λ k. length (operands n) ≤ k) (ap top_room only.frames ∙ room_same m.stack.frames (operands n)) held);
      frames = pc ∙ ap (at_pc q.next) frames;
    }

-- ---- an exception

pub is_raised : (w : World) (e : Exception) (t : ℕ) (a new : ProgramState) (b : Parts) → Raises w e a.memory b → IsSettled t (record a { memory = b }) new → IsRaised w e t a new
is_raised w e t a new b raises settled r out frames is here at =
    stage_leads (λ s. raised w s t e) a new r out t Run frames frames is at a.memory b refl refl is.status here refl refl (raises (stage_of r t Run frames at) frames) settled

pub throws_concluded : (w : World) (q : PendingRequest) (t : ℕ) (e : Exception) (a new : ProgramState) (before : List Frame) → IsRaised w e t a new
    → Concludes w q t (replies.Throws e) a before new before
throws_concluded w q t e a new before raises r out f below is here at top = raises r out before is here at

-- ---- a wait

-- Thread t, which had no deadline, waits in a phase.
pub wait_begun : (t : ℕ) (phase : Phase) (a : ProgramState) (wheel : Sleepers) (keys : Vec (Option Key)) (table : Threads)
    → IsTimerSet t (later_than a.time (phase_deadline phase)) a.wheel a.keys.items wheel keys.items → IsWaiting t phase a.threads table
    → BeginsWait t phase a (record a { threads = table; wheel = wheel; keys = keys })
wait_begun t phase a wheel keys table timer waits r out frames is here at =
    let x : JavaThread = at.thread in
    let y : JavaThread = record x { thread = record x.thread { status = Live phase } } in
    let new : ProgramState = record a { threads = table; wheel = wheel; keys = keys } in
    let none : deadlines_of r.now r.threads t ≡ None = ap (coming_deadline r.now) at.at ∙ ap (λ status. later_than r.now (deadline_in status)) at.status in
    let status : with_status_in r t (Live phase) ≡ record r { threads = slice_set r.threads t y } = rw at.at refl in
    let put = thread_put a new r out t x y is at.at
    (record {
      run = is.status;
      rows = ap (λ (ts : Threads). ts.threads) waits.threads ∙ rows_set a.threads r t x y (λ thread. record thread { status = Live phase }) is.rows at.at refl;
      limit = ap (λ (ts : Threads). ts.limit) waits.threads;
      most_threads = refl;
      monitors = monitors_kept a.monitors r.threads r.owners t x y is.monitors at.at (plain_lists x.thread.status (Live phase) (ap is_plain_status at.status) waits.plain);
      permits = permits_same a r out t x x.permit is at.at refl;
      interrupts = interrupts_same a r out t x x.interrupted is at.at refl;
      unnamed = refl;
      time = refl;
      places = timer.places;
      wheel = subst (λ now. HoldsDeadlines (sleeper_at wheel) (key_at keys.items) (with_deadline (deadlines_of r.now r.threads) t (later_than now (phase_deadline phase)))) is.now
          (timer.holds (deadlines_of r.now r.threads) is.wheel none);
    })
    (kept_put a.frozen.items r out t x y at.at is.kept (still_out t (out t) x y (slice_get a.frozen.items t) here refl)) in
    subst (λ q. IsState new q out) (own_memory a r out (slice_set r.threads t y) is ∙ sym status) put

pub waits_concluded : (w : World) (q : PendingRequest) (t : ℕ) (phase : Phase) (a new : ProgramState) (before : List Frame) → BeginsWait t phase a new
    → Concludes w q t (replies.Waits phase) a before new before
waits_concluded w q t phase a new before waits r out f below is here at top =
    let x : JavaThread = at.thread in
    let y : JavaThread = record x { thread = record x.thread { status = Live phase } } in
    let next : State = record r { threads = slice_set r.threads t y } in
    let status : with_status_in r t (Live phase) ≡ next = rw at.at refl in
    record {
      next = next;
      makes = ap (λ (s : State). Some s) status;
      is = subst (λ s. IsState new s out) status (waits r out before is here at);
      has = record { thread = y; at = get_set r.threads t x y at.at; has = at.has };
      others = others_same t r next (λ u ne. set_other r.threads t u y ne) refl refl;
    }
