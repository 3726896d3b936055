-- From what an instruction asks to the step of its thread.
use Rattle.std.proofs.Common.{◌≡◌, ◌≢◌, ℕ, suc, ◌<◌, arith, Bool, true, false, List, [], ◌∷◌, length, drop, Option, Some, None, refl, ap, sym, subst, ◌∙◌}
use Rattle.std.specs.Prelude.{map, not, slice_get, slice_set, ◌&&◌}
use Rattle.std.proofs.Math.ListN.{length-set}
use Rattle.items.specs.Options.{◌>>=◌}
use Rattle.items.proofs.Binds.{bind_is, some_is}
use Rattle.instruction_rows.specs.Rows.{Row, returns}
use Rattle.instruction_rows.specs.Table.{row as row_of}
use Rattle.vthread_state.specs.declared.phase.Phase.TheVariants.{Run}
use Rattle.vthread_state.specs.declared.thread.ThreadKind.{ThreadKind}
use Rattle.link_model.specs.World.{World}
use Rattle.verify_types.specs.Environment.{Instruction}
use Rattle.state_model.specs.Frames.{Frame}
use Rattle.continuation.specs.Continuation.{Continuation}
use Rattle.frames.specs.Frames.{top_stack}
use Rattle.ref_model.specs.declared.exception.Exception.{Exception}
use Rattle.ref_model.specs.Asking.{Asking, goes}
use Rattle.ref_model.specs.Effects.{Effect, done, invokes, throws, throws_object, asks}
use Rattle.ref_model.specs.Fetch.{fetched}
use Rattle.ref_model.specs.Looks.{is_create}
use Rattle.ref_model.specs.Requesting.{asked}
use Rattle.ref_model.specs.Requests.{Request, request_of}
use Rattle.ref_model.specs.Resuming.{asking_by, asking_in}
use Rattle.ref_model.specs.State.{JavaThread, State}
use Rattle.ref_model.specs.Step.{after_effect, event_step, phase_step, row_effect, row_event, row_or_event}
use Rattle.ref_model.specs.declared.request.ThreadRequest.TheVariants as requests
use Rattle.schedule_soundness.specs.PutLaws.{Stays, no_thread, is_new, is_kept, OthersStay, OthersStayBeside}
use Rattle.schedule_soundness.proofs.ThreadLists.{not_none, same_some}
use Rattle.thread_steps.specs.declared.parts.Parts.{Parts}
use Rattle.thread_steps.specs.declared.progress.PendingRequest.{PendingRequest}
use Rattle.thread_steps.specs.Asking.{asking_of, AsksAt}
use Rattle.thread_steps.specs.States.{memory_of}
use Rattle.program_state.specs.declared.reply.Reply.{Reply}
use Rattle.program_state.specs.declared.reply.Reply.TheVariants as replies
use Rattle.program_state.specs.declared.starting.First.{First}
use Rattle.program_state.specs.declared.starting.Start.TheVariants.{Begins, Throws}
use Rattle.program_state.specs.declared.state.ProgramState.{ProgramState}
use Rattle.program_state.specs.Creating.{has_room}
use Rattle.program_state.specs.Replies.{Answers, Concludes, GoesOn, GoesOnWithout}
use Rattle.program_state.specs.Requests.{IsPending, IsRequestMade, LacksThreads, lacks_room}
use Rattle.program_state.specs.Running.{StandsAt}
use Rattle.program_state.specs.Starting.{IsBegun, IsStart}
use Rattle.program_state.specs.States.{IsState}
use Rattle.ref_model.specs.State.{Owner}
use Rattle.std.specs.Prelude.{is_none}
use Rattle.monitor_soundness.specs.MonitorPuts.{StaysOrIsNotified, stays, is_notified}
use Rattle.thread_steps.specs.Asking as asking
use Rattle.thread_steps.specs.Asking.{StaysIfAsked}
use Rattle.thread_steps.specs.declared.progress.Progress.{Progress}
use Rattle.thread_steps.specs.declared.progress.Progress.TheVariants.{Stepped, Asks, Calls, Returns}
use Rattle.program_state.specs.Running.{IsProgress}
use Rattle.program_state.specs.Steps.{Awakes, IsInterrupted, PutsNobody, gets, keeps_monitor, leaves_others, lines_up, notifies, tells}
use Rattle.program_state.specs.Steps.{IsWoken, Starts, StepsTo}
use Rattle.program_state.specs.Waking.{LeavesWoken, wake_outcome}
use Rattle.program_state.proofs.StateLaws.{others_same, others_then, stays_then}
use Rattle.program_state.proofs.CreateLaws.{room_there}
use Rattle.program_state.proofs.ReplyLaws.{goes_concluded, gone_on}
use Rattle.program_state.proofs.StartLaws.{begun_is, begun_runs, begun_state, begun_thread, starts_then}

-- ---- the step of an instruction that asks is what its request makes of the state

inner_pair : (x y : Request × Asking) → Some x ≡ Some y → x ≡ y
inner_pair x y e = cc

effect_asks : (w : World) (r : State) (t next : ℕ) (f : Frame) (below : List Frame) (e : Effect) (x : Request × Asking) → asking_by f below next e ≡ Some x
    → after_effect w r t next f below e ≡ asked w r t x.1 x.0
effect_asks w r t next f below (done m stack) x e = absurd cc
effect_asks w r t next f below (invokes g stack) x e = absurd cc
effect_asks w r t next f below (throws k) x e = absurd cc
effect_asks w r t next f below (throws_object o) x e = absurd cc
effect_asks w r t next f below (asks q stack) x e =
    ap (λ (y : Request × Asking). asked w r t y.1 y.0) (inner_pair (q, record { frame = f; below = below; next = next; stack = stack }) x e)

row_asks : (w : World) (i : Instruction) (act : Row) (r : State) (t : ℕ) (f : Frame) (below : List Frame) (x : Request × Asking)
    → (row_effect w i act r.memory (length (f ∷ below)) f >>= asking_by f below i.instr.next) ≡ Some x → row_event w i act r t f below ≡ asked w r t x.1 x.0
row_asks w i (returns kind) r t f below x e = absurd cc
row_asks w i act r t f below x e =
    let y = some_is (row_effect w i act r.memory (length (f ∷ below)) f) (asking_by f below i.instr.next) x e in
    bind_is (row_effect w i act r.memory (length (f ∷ below)) f) (after_effect w r t i.instr.next f below) y.0 (asked w r t x.1 x.0) y.1
    (effect_asks w r t i.instr.next f below y.0 x y.2)

pub event_asks : (w : World) (r : State) (t : ℕ) (f : Frame) (below : List Frame) (x : Request × Asking) → asking_in w r.memory (f ∷ below) ≡ Some x
    → event_step w r t (f ∷ below) ≡ asked w r t x.1 x.0
event_asks w r t f below x e =
    let i = some_is (fetched w f) (λ i. row_effect w i (row_of i.instr.op) r.memory (length (f ∷ below)) f >>= asking_by f below i.instr.next) x e in
    bind_is (fetched w f) (λ i. row_event w i (row_of i.instr.op) r t f below) i.0 (asked w r t x.1 x.0) i.1 (row_asks w i.0 (row_of i.0.instr.op) r t f below x i.2)

pub pending_step : (w : World) (q : PendingRequest) (a : Parts) (frames : List Frame) (r : State) (t : ℕ) (p : IsPending w q a frames) → memory_of a ≡ r.memory
    → phase_step w r t frames Run ≡ asked w r t (asking_of q p.frame p.below) (request_of q.request)
pending_step w q a frames r t p same =
    let asking : asking_in w r.memory (p.frame ∷ p.below) ≡ Some (request_of q.request, asking_of q p.frame p.below) =
    ap (λ m. asking_in w m (p.frame ∷ p.below)) (sym same) ∙ ap (asking_in w (memory_of a)) (sym p.top) ∙ p.asks.asking in
    ap (row_or_event w r t frames) p.asks.event ∙ ap (event_step w r t) p.top ∙ event_asks w r t p.frame p.below (request_of q.request, asking_of q p.frame p.below) asking

-- ---- a request that was answered, and whose reply was concluded

-- what a step leaves of others, where it goes on from a state that a request left
abbrev pub LeavesThen : ℕ → ProgramState → ProgramState → (State → State → Type 0) → (State → State → Type 0) → Type 0
LeavesThen t mid new first leaves = (r s q : State) (out : ℕ → Bool) → IsState mid s out → IsState new q out → first r s → OthersStay t s q → leaves r q

pub request_goes_on : (w : World) (q : PendingRequest) (t : ℕ) (a mid new : ProgramState) (before after : List Frame) (reply : Reply) (first leaves : State → State → Type 0)
    → LeavesThen t mid new first leaves → IsPending w q a.memory before → Answers w q.request first t a mid reply → Concludes w q t reply mid before new after
    → StepsTo w leaves Run t a before new after
request_goes_on w q t a mid new before after reply first leaves then p answers concludes r out is here at =
    let h = answers r out before is at in
    let l = concludes h.state out p.frame p.below h.is here h.runs p.top in
    record {
      next = l.next;
      makes = pending_step w q a.memory before r t p is.memory ∙ h.same (asking_of q p.frame p.below) ∙ l.makes;
      is = l.is;
      has = l.has;
      others = then r h.state l.next out h.is l.is h.others l.others;
    }

pub request_done : (w : World) (q : PendingRequest) (t : ℕ) (a mid new : ProgramState) (before after : List Frame) (reply : Reply) → IsPending w q a.memory before
    → Answers w q.request (OthersStay t) t a mid reply → Concludes w q t reply mid before new after → StepsTo w (PutsNobody t) Run t a before new after
request_done w q t a mid new before after reply =
    request_goes_on w q t a mid new before after reply (OthersStay t) (PutsNobody t) (λ r s q out is now first last. leaves_others (others_then t r s q first last))

-- ---- starts

pub start_throws : (w : World) (t u : ℕ) (a : ProgramState) (e : Exception) → IsStart w u a (Throws e) → Answers w (requests.Starts u) (OthersStay t) t a a (replies.Throws e)
start_throws w t u a e start r out frames is at =
    record {
      state = r;
      same = λ k. (start r out is).gives t k;
      is = is;
      runs = at;
      others = others_same t r r (λ u ne. refl) refl refl;
    }

rows_length : (xs : List JavaThread) → length (map (λ (y : JavaThread). y.thread) xs) ≡ length xs
rows_length [] = refl
rows_length (x ∷ xs) = ap suc (rows_length xs)

same_count : (a : ProgramState) (r q : State) (out : ℕ → Bool) → IsState a r out → IsState a q out → length q.threads ≡ length r.threads
same_count a r q out x y = sym (rows_length q.threads) ∙ ap length (sym y.rows ∙ x.rows) ∙ rows_length r.threads

pub request_starts : (w : World) (q : PendingRequest) (t u : ℕ) (a new : ProgramState) (first : First) (before after : List Frame) → IsPending w q a.memory before
    → q.request ≡ requests.Starts u → IsStart w u a (Begins first) → IsBegun u first a new → GoesOnWithout q before after → StepsTo w (Starts t u) Run t a before new after
request_starts w q t u a new first before after p starts start begun goes_on r out is here at =
    let s = start r out is in
    let g = s.gives in
    let f : Frame = p.frame in
    let asking : Asking = asking_of q p.frame p.below in
    let y : JavaThread = begun_thread s.new.thread first.monitor g.frame in
    let between : State = record r { threads = slice_set r.threads u y } in
    let now = begun_state a new r out u first g.frame s.new is begun g.thread_is g.frames in
    let runs = begun_runs r t u first.monitor g.frame before s.new at in
    let l = gone_on new between out t q.next before after p.frame p.below (drop q.operands f.stack) now here runs p.top
    (subst (λ fs. GoesOn q.next (drop q.operands (top_stack fs)) before after) p.top goes_on) in
    let count : length l.next.threads ≡ length r.threads = same_count new between l.next out now l.is ∙ length-set r.threads u y in
    record {
      next = l.next;
      makes = pending_step w q a.memory before r t p is.memory ∙ ap (λ x. asked w r t asking (request_of x)) starts ∙ g.begins t asking
          ∙ ap (λ (x : State). goes x t asking) (begun_is r u s.new.thread first.monitor g.frame s.new.there) ∙ l.makes;
      is = l.is;
      has = l.has;
      others = starts_then t u r l.next first.monitor g.frame s.new before at l.others count;
    }

-- ---- permits and interrupts

beside_then : (t u : ℕ) (r s q : State) → OthersStayBeside t u r s → OthersStay t s q → OthersStayBeside t u r q
beside_then t u r s q first last =
    record {
      threads = λ v ne other. stays_then (slice_get r.threads v) (slice_get s.threads v) (slice_get q.threads v) (first.threads v ne other) (last.threads v ne);
      owners = last.owners ∙ first.owners;
      now = last.now ∙ first.now;
    }

woken_then : (t u : ℕ) (r s q : State) → u ≢ t → IsWoken u r s → OthersStay t s q → IsWoken u r q
woken_then t u r s q ne woken last = by (last.threads u ne)
  where
    by : Stays (slice_get s.threads u) (slice_get q.threads u) → IsWoken u r q
    by (no_thread e f) = absurd (not_none (slice_get s.threads u) woken.new e woken.is)
    by (is_new y e f n) = absurd (not_none (slice_get s.threads u) woken.new e woken.is)
    by (is_kept x y e f status permit interrupted) =
        let same : x ≡ woken.new = same_some (slice_get s.threads u) x woken.new e woken.is in
        record {
          old = woken.old;
          new = y;
          was = woken.was;
          is = f;
          live = woken.live;
          status = status ∙ ap (λ (z : JavaThread). z.thread.status) same ∙ woken.status;
          permit = λ had. permit ∙ ap (λ (z : JavaThread). z.permit) same ∙ woken.permit had;
          interrupted = λ had. interrupted ∙ ap (λ (z : JavaThread). z.interrupted) same ∙ woken.interrupted had;
        }

interrupted_then : (t u : ℕ) (r s q : State) → u ≢ t → IsInterrupted u r s → OthersStay t s q → IsInterrupted u r q
interrupted_then t u r s q ne woken last = by (last.threads u ne)
  where
    by : Stays (slice_get s.threads u) (slice_get q.threads u) → IsInterrupted u r q
    by (no_thread e f) = absurd (not_none (slice_get s.threads u) woken.new e woken.is)
    by (is_new y e f n) = absurd (not_none (slice_get s.threads u) woken.new e woken.is)
    by (is_kept x y e f status permit interrupted) =
        let same : x ≡ woken.new = same_some (slice_get s.threads u) x woken.new e woken.is in
        record {
          old = woken.old;
          new = y;
          was = woken.was;
          is = f;
          monitor = woken.monitor;
          count = woken.count;
          deadline = woken.deadline;
          waited = woken.waited;
          reenters = status ∙ ap (λ (z : JavaThread). z.thread.status) same ∙ woken.reenters;
        }

awakes_then : (t u : ℕ) (r s q : State) → u ≢ t → Awakes u r s → OthersStay t s q → Awakes u r q
awakes_then t u r s q ne (gets woken free) last = gets (woken_then t u r s q ne woken last) free
awakes_then t u r s q ne (lines_up woken) last = lines_up (interrupted_then t u r s q ne woken last)

pub notified_then : (o : ℕ) (x y z : Option JavaThread) → StaysOrIsNotified o x y → Stays y z → StaysOrIsNotified o x z
notified_then o x y z (stays first) last = stays (stays_then x y z first last)
notified_then o x y z (is_notified old new was is waits status) (no_thread e f) = absurd (not_none y new e is)
notified_then o x y z (is_notified old new was is waits status) (is_new v e f n) = absurd (not_none y new e is)
notified_then o x y z (is_notified old new was is waits status) (is_kept u v e f kept permit interrupted) =
    is_notified old v was f waits (kept ∙ ap (λ (k : JavaThread). k.thread.status) (same_some y u new e is) ∙ status)

puts_then : (t : ℕ) (r s q : State) → PutsNobody t r s → OthersStay t s q → PutsNobody t r q
puts_then t r s q (leaves_others first) last = leaves_others (others_then t r s q first last)
puts_then t r s q (tells u first) last =
    tells u (record {
      other = first.other;
      others = beside_then t u r s q first.others last;
      told = woken_then t u r s q first.other first.told last;
      in_line = first.in_line;
    })
puts_then t r s q (keeps_monitor o first owned) last =
    keeps_monitor o (record {
      threads = λ u ne. stays_then (slice_get r.threads u) (slice_get s.threads u) (slice_get q.threads u) (first.threads u ne) (last.threads u ne);
      owners = λ p ne. ap (λ (f : ℕ → Option Owner). f p) last.owners ∙ first.owners p ne;
      now = last.now ∙ first.now;
    }) (ap (λ (f : ℕ → Option Owner). is_none (f o)) last.owners ∙ owned)
puts_then t r s q (notifies o first) last =
    notifies o (record {
      threads = λ u ne. notified_then o (slice_get r.threads u) (slice_get s.threads u) (slice_get q.threads u) (first.threads u ne) (last.threads u ne);
      owners = last.owners ∙ first.owners;
      now = last.now ∙ first.now;
      owned = first.owned;
    })

leaves_then : (t : ℕ) (a : ProgramState) (woken : Option ℕ) → LeavesThen t a a (LeavesWoken t woken) (LeavesWoken t woken)
leaves_then t a None r s q out is now first last = puts_then t r s q first last
leaves_then t a (Some u) r s q out is now first last =
    record {
      other = first.other;
      others = beside_then t u r s q first.others last;
      woken = awakes_then t u r s q first.other first.woken last;
      count = same_count a s q out is now ∙ first.count;
    }

-- A thread was given a permit or an interrupt, and the one that gave it goes on.
pub wake_made : (w : World) (q : PendingRequest) (a new : ProgramState) (m n : Continuation) (woken : Option ℕ) → IsPending w q a.memory m.stack.frames
    → Answers w q.request (LeavesWoken m.thread woken) m.thread a new replies.Goes → GoesOnWithout q m.stack.frames n.stack.frames → IsRequestMade w q (wake_outcome woken) a m new n
wake_made w q a new m n None p answers goes =
    request_goes_on w q m.thread a new new m.stack.frames n.stack.frames replies.Goes (LeavesWoken m.thread None) (LeavesWoken m.thread None) (leaves_then m.thread new None) p answers
    (goes_concluded w q m.thread new m.stack.frames n.stack.frames goes)
wake_made w q a new m n (Some u) p answers goes =
    request_goes_on w q m.thread a new new m.stack.frames n.stack.frames replies.Goes (LeavesWoken m.thread (Some u)) (LeavesWoken m.thread (Some u)) (leaves_then m.thread new (Some u)) p answers
    (goes_concluded w q m.thread new m.stack.frames n.stack.frames goes)

-- ---- a thread is to be made where there may be no more

both_true : (a b : Bool) → (a && b) ≡ true → (a ≡ true) × (b ≡ true)
both_true true b e = (refl, e)
both_true false b e = absurd cc

not_true : (b : Bool) → not b ≡ true → b ≡ false
not_true true e = absurd cc
not_true false e = refl

not_false : (b : Bool) → not b ≡ false → b ≡ true
not_false true e = refl
not_false false e = absurd cc

pub threads_lacking : (q : PendingRequest) (a : ProgramState) (m : Continuation) → lacks_room a q.request ≡ true → LacksThreads q a m a m
threads_lacking q a m e =
    let b = both_true (is_create (request_of q.request)) (not (has_room a)) e in
    record {
      creates = b.0;
      full = λ r out is. room_there a r out is ∙ not_true (has_room a) b.1;
      state = refl;
      mounted = refl;
    }

-- where it isn't so, a thread may be made
pub room_for : (a : ProgramState) (kind : ThreadKind) (object : ℕ) (name : Option ℕ) → lacks_room a (requests.Creates kind object name) ≡ false → has_room a ≡ true
room_for a kind object name e = not_false (has_room a) e

-- ---- an instruction that asks

pub first_of : (frames : List Frame) → 0 < length frames → (f : Frame) × (below : List Frame) × (frames ≡ f ∷ below)
first_of [] some = absurd (omega arith)
first_of (f ∷ below) some = (f, below, refl)

pub asks_pending : (w : World) (i : Instruction) (q : PendingRequest) (a : Parts) (frames : List Frame) → 0 < length frames → StandsAt w i frames → AsksAt w i q a frames → IsPending w q a frames
asks_pending w i q a frames some at asking =
    let x = first_of frames some in
    record { frame = x.0; below = x.1; top = x.2; asks = asking x.0 x.1 x.2 (at x.0 x.1 x.2) }

pub pending_progress : (w : World) (i : Instruction) (p : Progress) (a : ProgramState) (b : Parts) (m n : Continuation) → 0 < length m.stack.frames → StandsAt w i m.stack.frames
    → (p ≡ Stepped → ⊥) → asking.IsProgress w i p a.memory m.stack.frames b n.stack.frames → StaysIfAsked p m n → IsProgress w p a m (record a { memory = b }) n
pending_progress w i Stepped a b m n some at other asked kept = absurd (other refl)
pending_progress w i (Asks q) a b m n some at other asked kept = (
  asks_pending w i q a.memory m.stack.frames some at asked.0,
  record { state = ap (λ (p : Parts). record a { memory = p }) asked.1; mounted = kept },
)
pending_progress w i (Calls call) a b m n some at other asked kept =
    let x = first_of m.stack.frames some in (
      record { frame = x.0; below = x.1; top = x.2; calls = asked.0 x.0 x.1 x.2 (at x.0 x.1 x.2) },
      record { state = ap (λ (p : Parts). record a { memory = p }) asked.1; mounted = kept },
    )
pending_progress w i (Returns q) a b m n some at other asked kept =
    let x = first_of m.stack.frames some in (
      record { frame = x.0; below = x.1; top = x.2; returns = asked.0 x.0 x.1 x.2 (at x.0 x.1 x.2) },
      record { state = ap (λ (p : Parts). record a { memory = p }) asked.1; mounted = kept },
    )
