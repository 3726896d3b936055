-- A thread is started.
use Rattle.std.proofs.Common.{◌≡◌, ◌≢◌, ◌⊎◌, inl, inr, eqb, ℕ, zero, suc, ◌+◌, ◌<◌, ◌-◌, ◌++◌, Bool, true, false, List, [], ◌∷◌, length, Option, Some, None, refl, ap, sym, subst, ◌∙◌, arith}
use Rattle.std.specs.Prelude.{IsSome, map, nat_le, replicate, slice_get, slice_set, if◌then◌else◌}
use Rattle.std.specs.Global.{Vec}
use Rattle.std.specs.Option.{option_map, option_map_or}
use Rattle.std.proofs.lemmas.Bool.{le-leb}
use Rattle.std.proofs.lemmas.List.{set-set}
use Rattle.std.proofs.lemmas.Bool.Decides.{eqb_tells}
use Rattle.items.specs.Options.{◌>>=◌}
use Rattle.items.proofs.Binds.{bind_is}
use Rattle.instruction_rows.specs.declared.value.Value.TheVariants as values
use Rattle.instruction_rows.specs.declared.value.Slot.{Slot}
use Rattle.instruction_rows.specs.declared.value.Slot.TheVariants.{One, Second}
use Rattle.vthread_state.specs.declared.phase.Phase.{Phase}
use Rattle.vthread_state.specs.declared.phase.Phase.TheVariants.{Run, Entering}
use Rattle.vthread_state.specs.declared.thread.Status.{Status}
use Rattle.vthread_state.specs.declared.thread.Status.TheVariants.{New, Live, Done}
use Rattle.vthread_state.specs.declared.thread.Thread.{Thread}
use Rattle.vthread_state.specs.Threads.{Threads, phase_at, phase_of, thread_at, with_status}
use Rattle.monitors.specs.Monitors.{Monitors}
use Rattle.link_rules.specs.declared.choice.Choice.{Choice}
use Rattle.link_model.specs.World.{World}
use Rattle.link_model.specs.Decoded.{code_at}
use Rattle.link_model.specs.Initializers.{is_synchronized}
use Rattle.link_model.specs.declared.members.MethodCode.{MethodCode}
use Rattle.link_model.specs.declared.members.MethodInfo.{MethodInfo}
use Rattle.link_model.specs.Methods.{choice_of}
use Rattle.state_model.specs.Frames.{Frame}
use Rattle.continuation.specs.Continuation.{Continuation}
use Rattle.frames.specs.Frames.{with_local}
use Rattle.ref_model.specs.declared.exception.Exception.TheVariants as exceptions
use Rattle.ref_model.specs.Asking.{Asking, goes}
use Rattle.ref_model.specs.Ending.{is_live}
use Rattle.ref_model.specs.Frames.{first_frame}
use Rattle.ref_model.specs.Heap.{class_at}
use Rattle.ref_model.specs.Looks.{deadline_in, phase_deadline}
use Rattle.ref_model.specs.Monitors.{with_monitor}
use Rattle.ref_model.specs.Starting.{begun_by, begun_with, first_phase, run_choice, run_frame, run_method, started, started_in, with_begun}
use Rattle.ref_model.specs.State.{JavaThread, State}
use Rattle.ref_model.specs.Throwing.{raised}
use Rattle.ref_model.proofs.StateLaws.{get_set}
use Rattle.wakes.specs.Flags.{Flags}
use Rattle.sleep_wheel.specs.declared.sleeper.Key.{Key}
use Rattle.sleep_wheel.specs.Sleepers.{sleeper_at}
use Rattle.heap_instructions.specs.HeapReads.{class_number}
use Rattle.schedule_soundness.specs.PutLaws.{Stays, no_thread, is_new, is_kept, IsLive, IsNew, OthersStay}
use Rattle.schedule_soundness.proofs.ThreadLists.{set_other, same_some, not_none}
use Rattle.thread_steps.specs.declared.parts.Parts.{Parts}
use Rattle.thread_steps.specs.States.{memory_of}
use Rattle.program_state.specs.declared.starting.First.{First}
use Rattle.program_state.specs.declared.starting.Start.{Start}
use Rattle.program_state.specs.declared.starting.Start.TheVariants.{Begins, Throws}
use Rattle.program_state.specs.declared.state.ProgramState.{ProgramState}
use Rattle.program_state.specs.Deadlines.{HoldsDeadlines, deadlines_of, key_at, later_than, with_deadline}
use Rattle.program_state.specs.Starting.{IsBegun, IsFirst, IsPushed, IsRun, IsStart, StartGives, StartsSo, begin_phase}
use Rattle.program_state.specs.States as places
use Rattle.program_state.specs.Monitors.{AreSeated, HoldsMonitors, LinesUpFor}
use Rattle.program_state.proofs.MonitorLaws.{holds_seated, monitors_kept, plain_lists, seated}
use Rattle.program_state.proofs.SeatLaws.{lined_owner, row_set, seats_lined}
use Rattle.program_state.specs.States.{IsInPhase, IsKept, IsState, is_plain_status}
use Rattle.program_state.specs.Steps.{Starts}
use Rattle.program_state.proofs.StateLaws.{interrupts_same, own_memory, permits_same, row_back, row_there, rows_set, thread_put, wheel_same}

-- ---- the first frame

-- the frame of a method on an object
abbrev pub object_frame : ℕ → MethodCode → ℕ → Frame
object_frame method code object = record {
  method = method;
  pc = 0;
  locals = One (values.Ref object) ∷ replicate (code.max_locals - 1) Second;
  stack = [];
  room = code.max_stack;
}

first_is : (method : ℕ) (code : MethodCode) (object : ℕ) → 0 < code.max_locals
    → first_frame method code (One (values.Ref object) ∷ []) ≡ Some (object_frame method code object)
first_is method code object some = by (nat_le 1 code.max_locals) (le-leb 1 code.max_locals some)
  where
    found : Option Frame
    found = Some (object_frame method code object)

    by : (b : Bool) → b ≡ true → (if b then found else None) ≡ found
    by true e = refl
    by false e = absurd cc

set_first : (n : ℕ) (slot : Slot) → 0 < n → slice_set (replicate n Second) 0 slot ≡ slot ∷ replicate (n - 1) Second
set_first zero slot some = absurd (omega arith)
set_first (suc n) slot some = let less : suc n - 1 ≡ n = omega arith in ap (λ k. slot ∷ replicate k Second) (sym less)

pub first_made : (thread method : ℕ) (code : MethodCode) (object : ℕ) (m : Continuation) → 0 < code.max_locals → IsPushed thread method code object code.max_locals m
    → IsFirst thread method code object false m
first_made thread method code object m some pushed =
    let whole : code.max_locals - 0 ≡ code.max_locals = omega arith in
    let locals : slice_set (replicate (code.max_locals - 0) Second) 0 (One (values.Ref object)) ≡ One (values.Ref object) ∷ replicate (code.max_locals - 1) Second =
    ap (λ n. slice_set (replicate n Second) 0 (One (values.Ref object))) whole ∙ set_first code.max_locals (One (values.Ref object)) some in
    record {
      thread_is = pushed.thread_is;
      frame = object_frame method code object;
      is = first_is method code object some;
      frames = pushed.frames ∙ ap (λ slots. record (object_frame method code object) { locals = slots } ∷ []) locals;
    }

-- the last local variable is set
set_end : (n : ℕ) (slot : Slot) → slice_set (replicate (suc n) Second) n slot ≡ replicate n Second ++ slot ∷ []
set_end zero slot = refl
set_end (suc n) slot = ap (λ xs. Second ∷ xs) (set_end n slot)

set_both : (n : ℕ) (slot : Slot) → 0 < n → slice_set (slice_set (replicate (n + 1 - 0) Second) 0 slot) n slot ≡ (slot ∷ replicate (n - 1) Second) ++ slot ∷ []
set_both zero slot some = absurd (omega arith)
set_both (suc n) slot some =
    let more : suc n + 1 - 0 ≡ suc (suc n) = omega arith in
    let less : suc n - 1 ≡ n = omega arith in
    ap (λ k. slice_set (slice_set (replicate k Second) 0 slot) (suc n) slot) more ∙ ap (λ xs. slot ∷ xs) (set_end n slot)
    ∙ ap (λ k. (slot ∷ replicate k Second) ++ slot ∷ []) (sym less)

-- the same with one more local variable, the last, which was set too
pub locked_made : (thread method : ℕ) (code : MethodCode) (object : ℕ) (m k : Continuation) → 0 < code.max_locals → IsPushed thread method code object (code.max_locals + 1) m
    → k.thread ≡ m.thread → k.stack.frames ≡ with_local code.max_locals (One (values.Ref object)) m.stack.frames → IsFirst thread method code object true k
locked_made thread method code object m k some pushed thread_is set =
    let slot : Slot = One (values.Ref object) in
    record {
      thread_is = thread_is ∙ pushed.thread_is;
      frame = object_frame method code object;
      is = first_is method code object some;
      frames = set ∙ ap (with_local code.max_locals slot) pushed.frames
          ∙ ap (λ slots. record (object_frame method code object) { locals = slots } ∷ []) (set_both code.max_locals slot some);
    }

-- ---- the method that begins

pub no_code : (w : World) (thread object method : ℕ) → code_at w method ≡ None → IsRun w thread object method (Throws exceptions.AbstractMethodError)
no_code w thread object method none r t a = ap (λ o. begun_with w r t a thread object method o) none

-- the monitor that a thread enters first
abbrev pub first_monitor : Bool → ℕ → Option ℕ
first_monitor true object = Some object
first_monitor false object = None

phase_is : (m : MethodInfo) (object : ℕ) (synchronized : Bool) → is_synchronized m ≡ synchronized → first_phase m object ≡ begin_phase (first_monitor synchronized object)
phase_is m object synchronized is = ap (λ b. if b then Entering object else Run) is ∙ by synchronized
  where
    by : (b : Bool) → (if b then Entering object else Run) ≡ begin_phase (first_monitor b object)
    by true = refl
    by false = refl

frame_is : (m : MethodInfo) (object : ℕ) (f : Frame) (synchronized : Bool) → is_synchronized m ≡ synchronized → run_frame m object f ≡ (if synchronized then with_monitor f object else f)
frame_is m object f synchronized is = ap (λ b. if b then with_monitor f object else f) is

pub run_begins : (w : World) (thread object method : ℕ) (code : MethodCode) (m : MethodInfo) (synchronized : Bool) (k : Continuation) → code_at w method ≡ Some code → slice_get w.methods method ≡ Some m
    → is_synchronized m ≡ synchronized → IsFirst thread method code object synchronized k
    → IsRun w thread object method (Begins (record { frozen = k; monitor = first_monitor synchronized object }))
run_begins w thread object method code m synchronized k there at is first r =
    let frame : Frame = if synchronized then with_monitor first.frame object else first.frame in
    let phase : Phase = begin_phase (first_monitor synchronized object) in
    record {
      thread_is = first.thread_is;
      frame = frame;
      frames = first.frames;
      begins = λ t a. ap (λ o. begun_with w r t a thread object method o) there
          ∙ bind_is (slice_get w.methods method) (λ m. first_frame method code (One (values.Ref object) ∷ []) >>= λ f. goes (with_begun r thread (first_phase m object) (run_frame m object f)) t a)
          m (goes (with_begun r thread phase frame) t a) at
          (bind_is (first_frame method code (One (values.Ref object) ∷ [])) (λ f. goes (with_begun r thread (first_phase m object) (run_frame m object f)) t a) first.frame
          (goes (with_begun r thread phase frame) t a) first.is
          (λ i. goes (with_begun r thread (phase_is m object synchronized is i) (frame_is m object first.frame synchronized is i)) t a));
    }

-- ---- what a start comes to

-- only a new thread is started
pub not_new : (w : World) (u : ℕ) (a : ProgramState) (row : Thread) → thread_at a.threads u ≡ Some row → (row.status ≡ New → ⊥) → IsStart w u a (Throws exceptions.IllegalThreadStateException)
not_new w u a row there other r out is =
    let x = row_back a.threads r u row is.rows there in
    record {
      new = tt;
      gives = λ t k. bind_is (slice_get r.threads u) (λ x. started_in w r t k u x.thread.object x.thread.status) x.0 (raised w r t exceptions.IllegalThreadStateException) x.1
          (by t k x.0.thread.object x.0.thread.status (λ e. other (ap (λ (z : Thread). z.status) (sym x.2) ∙ e)));
    }
  where
    by : (t : ℕ) (k : Asking) (object : ℕ) (status : Status) → (status ≡ New → ⊥) → started_in w r t k u object status ≡ raised w r t exceptions.IllegalThreadStateException
    by t k object New differs = absurd (differs refl)
    by t k object (Live phase) differs = refl
    by t k object Done differs = refl

-- What is selected as the run of a new thread begins.
pub is_selected : (w : World) (u : ℕ) (a : ProgramState) (row : Thread) (run class : ℕ) (choice : Choice) (start : Start) → thread_at a.threads u ≡ Some row → row.status ≡ New
    → run_method w ≡ Some run → class_number w a.memory.natives.heap.objects row.object ≡ Some class → choice_of w class run ≡ Some choice
    → ((r : State) → StartGives w u r start (λ t k. begun_by w r t k u row.object choice)) → IsStart w u a start
is_selected w u a row run class choice start there new run_is class_is chosen gives r out is =
    let x = row_back a.threads r u row is.rows there in
    by x.0 x.1 x.2 start (gives r)
  where
    selected : run_choice w r.memory row.object ≡ Some choice
    selected =
        bind_is (run_method w) (λ n. class_at w r.memory row.object >>= λ class. choice_of w class n) run (Some choice) run_is
        (bind_is (class_at w r.memory row.object) (λ class. choice_of w class run) class (Some choice) (ap (λ m. class_at w m row.object) (sym is.memory) ∙ class_is) chosen)

    same : (x : JavaThread) → slice_get r.threads u ≡ Some x → x.thread ≡ row → (t : ℕ) (k : Asking) → started w r t k u ≡ begun_by w r t k u row.object choice
    same x at row_is t k =
        bind_is (slice_get r.threads u) (λ x. started_in w r t k u x.thread.object x.thread.status) x (begun_by w r t k u row.object choice) at
        (ap (λ (z : Thread). started_in w r t k u z.object z.status) row_is ∙ ap (started_in w r t k u row.object) new
        ∙ bind_is (run_choice w r.memory row.object) (begun_by w r t k u row.object) choice (begun_by w r t k u row.object choice) selected refl)

    by : (x : JavaThread) → slice_get r.threads u ≡ Some x → x.thread ≡ row → (start : Start) → StartGives w u r start (λ t k. begun_by w r t k u row.object choice) → StartsSo w u r start
    by x at row_is (Begins k) g =
        record {
          new = record { thread = x; there = at; status = ap (λ (z : Thread). z.status) row_is ∙ new };
          gives = record { thread_is = g.thread_is; frame = g.frame; frames = g.frames; begins = λ t a. same x at row_is t a ∙ g.begins t a };
        }
    by x at row_is (Throws e) g = record { new = tt; gives = λ t a. same x at row_is t a ∙ g t a }

-- ---- the thread has begun

-- a new thread has no frames yet
new_idle : (u : ℕ) (out : Bool) (x : JavaThread) (o : Option (Option Continuation)) → x.thread.status ≡ New → IsKept u out (Some x) o → (out ≡ false) × (o ≡ Some None)
new_idle u out x o new (places.absent e f g) = absurd cc
new_idle u out x o new (places.mounted z e f g s) =
    let same : x ≡ z = cc in let no : false ≡ true = ap places.is_started (sym new ∙ ap (λ (k : JavaThread). k.thread.status) same) ∙ s in absurd cc
new_idle u out x o new (places.waiting z c e f g live t fs) =
    let same : x ≡ z = cc in let no : false ≡ true = ap is_live (sym new ∙ ap (λ (k : JavaThread). k.thread.status) same) ∙ live in absurd cc
new_idle u out x o new (places.idle z e f g live) = (e, g)

abbrev pub begun_thread : JavaThread → Option ℕ → Frame → JavaThread
begun_thread x monitor f = record x { thread = record x.thread { status = Live (begin_phase monitor) }; frames = f ∷ [] }

pub begun_is : (r : State) (u : ℕ) (x : JavaThread) (monitor : Option ℕ) (f : Frame) → slice_get r.threads u ≡ Some x
    → with_begun r u (begin_phase monitor) f ≡ record r { threads = slice_set r.threads u (begun_thread x monitor f) }
begun_is r u x monitor f at = ap (λ o. option_map_or (λ y. record r { threads = slice_set r.threads u (begun_thread y monitor f) }) o r) at

-- no wait of it has a deadline
begun_timeless : (monitor : Option ℕ) → phase_deadline (begin_phase monitor) ≡ None
begun_timeless None = refl
begun_timeless (Some o) = refl

-- the monitors, where it lines up for one or doesn't
begun_monitors : (a : ProgramState) (new : Monitors) (table : Threads) (r : State) (out : ℕ → Bool) (u : ℕ) (monitor : Option ℕ) (f : Frame) (idle : IsNew r u) → IsState a r out
    → LinesUpFor u monitor a.monitors new → table ≡ with_status a.threads u (Live (begin_phase monitor))
    → table.threads ≡ map (λ x. x.thread) (slice_set r.threads u (begun_thread idle.thread monitor f)) → HoldsMonitors new (slice_set r.threads u (begun_thread idle.thread monitor f)) r.owners
begun_monitors a new table r out u None f idle is same set rows =
    subst (λ m. HoldsMonitors m (slice_set r.threads u (begun_thread idle.thread None f)) r.owners) (sym same)
    (monitors_kept a.monitors r.threads r.owners u idle.thread (begun_thread idle.thread None f) is.monitors idle.there
    (plain_lists (idle.thread).thread.status (Live Run) (ap is_plain_status idle.status) refl))
begun_monitors a new table r out u (Some o) f idle is becomes set rows =
    holds_seated new table (slice_set r.threads u (begun_thread idle.thread (Some o) f)) r.owners
    (subst (AreSeated new) (sym set) (seats_lined a.monitors new a.threads u o (idle.thread).thread (seated a r out is) (row_there a.threads r u idle.thread is.rows idle.there) idle.status becomes)) rows
    (λ p. lined_owner u o a.monitors new becomes p ∙ is.monitors.owners_are p)

-- each place after one was set
set_place : (P : ℕ → Option JavaThread → Option (Option Continuation) → Type 0) (xs : List JavaThread) (ks : List (Option Continuation)) (u : ℕ) (x y : JavaThread) (c d : Option Continuation)
    → slice_get xs u ≡ Some x → slice_get ks u ≡ Some c → ((v : ℕ) → P v (slice_get xs v) (slice_get ks v)) → P u (Some y) (Some d)
    → (v : ℕ) → P v (slice_get (slice_set xs u y) v) (slice_get (slice_set ks u d) v)
set_place P xs ks u x y c d at here all own v = by (eqb_tells v u)
  where
    by : ((eqb v u ≡ true) × (v ≡ u)) ⊎ ((eqb v u ≡ false) × (v ≢ u)) → P v (slice_get (slice_set xs u y) v) (slice_get (slice_set ks u d) v)
    by (inl me) =
        subst (λ n. P n (slice_get (slice_set xs u y) n) (slice_get (slice_set ks u d) n)) (sym me.1)
        (subst (λ o. P u o (slice_get (slice_set ks u d) u)) (sym (get_set xs u x y at)) (subst (P u (Some y)) (sym (get_set ks u c d here)) own))
    by (inr other) =
        subst (λ o. P v o (slice_get (slice_set ks u d) v)) (sym (set_other xs u v y other.1)) (subst (P v (slice_get xs v)) (sym (set_other ks u v d other.1)) (all v))

pub begun_state : (a new : ProgramState) (r : State) (out : ℕ → Bool) (u : ℕ) (first : First) (f : Frame) (idle : IsNew r u) → IsState a r out → IsBegun u first a new
    → first.frozen.thread ≡ u → first.frozen.stack.frames ≡ f ∷ [] → IsState new (record r { threads = slice_set r.threads u (begun_thread idle.thread first.monitor f) }) out
begun_state a new r out u first f idle is begun thread frames =
    let x : JavaThread = idle.thread in
    let y : JavaThread = begun_thread x first.monitor f in
    let place = new_idle u (out u) x (slice_get a.frozen.items u) idle.status (subst (λ o. IsKept u (out u) o (slice_get a.frozen.items u)) idle.there (is.kept u)) in
    let rows : new.threads.threads ≡ map (λ x. x.thread) (slice_set r.threads u y) =
    ap (λ (ts : Threads). ts.threads) begun.threads ∙ rows_set a.threads r u x y (λ thread. record thread { status = Live (begin_phase first.monitor) }) is.rows idle.there refl in
    let put = thread_put a new r out u x y is idle.there
    (record {
      run = ap (λ (p : Parts). p.status) begun.memory ∙ is.status;
      rows = rows;
      limit = ap (λ (ts : Threads). ts.limit) begun.threads;
      most_threads = begun.most_threads;
      monitors = begun_monitors a new.monitors new.threads r out u first.monitor f idle is begun.monitors begun.threads rows;
      permits = ap (λ (fs : Flags). fs.permits) begun.wakes ∙ permits_same a r out u x x.permit is idle.there refl;
      interrupts = ap (λ (fs : Flags). fs.interrupts) begun.wakes ∙ interrupts_same a r out u x x.interrupted is idle.there refl;
      unnamed = begun.unnamed;
      time = begun.time;
      places = ap (λ (ks : Vec (Option Key)). length ks.items) begun.keys;
      wheel = subst (λ s. HoldsDeadlines (sleeper_at s) (key_at new.keys.items) (with_deadline (deadlines_of r.now r.threads) u (later_than r.now (deadline_in y.thread.status)))) (sym begun.wheel)
          (subst (λ (ks : Vec (Option Key)). HoldsDeadlines (sleeper_at a.wheel) (key_at ks.items) (with_deadline (deadlines_of r.now r.threads) u (later_than r.now (deadline_in y.thread.status)))) (sym begun.keys)
          (wheel_same a r out u x y is idle.there (begun_timeless first.monitor ∙ sym (ap deadline_in idle.status))));
    })
    (λ v. subst (λ ks. IsKept v (out v) (slice_get (slice_set r.threads u y) v) (slice_get ks v)) (sym begun.frozen)
    (set_place (λ n o c. IsKept n (out n) o c) r.threads a.frozen.items u x y None (Some first.frozen) idle.there place.1 is.kept (places.waiting y first.frozen place.0 refl refl refl thread frames) v)) in
    subst (λ q. IsState new q out) (ap (λ b. record r { memory = memory_of b; main_threw = b.main_threw; threads = slice_set r.threads u y }) begun.memory
    ∙ own_memory a r out (slice_set r.threads u y) is) put

pub begun_runs : (r : State) (t u : ℕ) (monitor : Option ℕ) (f : Frame) (frames : List Frame) (idle : IsNew r u) → IsInPhase r t Run frames
    → IsInPhase (record r { threads = slice_set r.threads u (begun_thread idle.thread monitor f) }) t Run frames
begun_runs r t u monitor f frames idle at = by (eqb_tells t u)
  where
    by : ((eqb t u ≡ true) × (t ≡ u)) ⊎ ((eqb t u ≡ false) × (t ≢ u)) → IsInPhase (record r { threads = slice_set r.threads u (begun_thread idle.thread monitor f) }) t Run frames
    by (inl me) =
        let same : at.thread ≡ idle.thread = same_some (slice_get r.threads t) at.thread idle.thread at.at (ap (slice_get r.threads) me.1 ∙ idle.there) in
        let no : Live Run ≡ New = sym at.status ∙ ap (λ (z : JavaThread). z.thread.status) same ∙ idle.status in absurd cc
    by (inr other) = record { thread = at.thread; at = set_other r.threads u t (begun_thread idle.thread monitor f) other.1 ∙ at.at; status = at.status; has = at.has }

-- Then the thread that starts it makes its step.
pub starts_then : (t u : ℕ) (r q : State) (monitor : Option ℕ) (f : Frame) (idle : IsNew r u) (frames : List Frame) → IsInPhase r t Run frames
    → OthersStay t (record r { threads = slice_set r.threads u (begun_thread idle.thread monitor f) }) q → length q.threads ≡ length r.threads → Starts t u r q
starts_then t u r q monitor f idle frames at stay count =
    record {
      others = record {
        threads = λ v ne other. subst (λ o. Stays o (slice_get q.threads v)) (set_other r.threads u v y other) (stay.threads v ne);
        owners = stay.owners;
        now = stay.now;
      };
      new = idle;
      live = by (stay.threads u differ);
      count = count;
    }
  where
    y : JavaThread
    y = begun_thread idle.thread monitor f

    differ : u ≢ t
    differ same =
        let own : at.thread ≡ idle.thread = same_some (slice_get r.threads t) at.thread idle.thread at.at (ap (slice_get r.threads) (sym same) ∙ idle.there) in
        let no : Live Run ≡ New = sym at.status ∙ ap (λ (z : JavaThread). z.thread.status) own ∙ idle.status in absurd cc

    there : slice_get (slice_set r.threads u y) u ≡ Some y
    there = get_set r.threads u idle.thread y idle.there

    by : Stays (slice_get (slice_set r.threads u y) u) (slice_get q.threads u) → IsLive q u
    by (no_thread e z) = absurd (not_none (slice_get (slice_set r.threads u y) u) y e there)
    by (is_new z e g n) = absurd (not_none (slice_get (slice_set r.threads u y) u) y e there)
    by (is_kept x z e g status permit interrupted) =
        let same : x ≡ y = same_some (slice_get (slice_set r.threads u y) u) x y e there in
        record { thread = z; there = g; status = ap is_live (status ∙ ap (λ (k : JavaThread). k.thread.status) same) }

-- ---- its row of the table

at_within : {A : Type 0} (xs : List A) (u : ℕ) → u < length xs → (x : A) × (slice_get xs u ≡ Some x)
at_within [] u less = absurd (omega arith)
at_within (x ∷ xs) zero less = (x, refl)
at_within (x ∷ xs) (suc u) less = at_within xs u (omega arith)

abbrev with_status_in : Status → Thread → Thread
with_status_in status row = record row { status = status }

started_row : (table : Threads) (u : ℕ) (row : Thread) (status : Status) → thread_at table u ≡ Some row → thread_at (with_status table u status) u ≡ Some (with_status_in status row)
started_row table u row status at = ap (λ ts. thread_at ts u) (row_set table u row (with_status_in status) at) ∙ get_set table.threads u row (with_status_in status row) at

-- it is live, ..
pub started_lives : (table after : Threads) (u : ℕ) → u < length table.threads → after ≡ with_status table u (Live Run) → IsSome (phase_at after u)
started_lives table after u less set =
    let row = at_within table.threads u less in
    subst IsSome (sym (ap (λ ts. phase_at ts u) set ∙ ap (λ o. option_map (λ (thread : Thread). thread.status) o >>= phase_of) (started_row table u row.0 (Live Run) row.1))) refl

-- .. and gets another phase
pub status_twice : (table : Threads) (u : ℕ) (first last : Status) → u < length table.threads → with_status (with_status table u first) u last ≡ with_status table u last
status_twice table u first last less =
    let row = at_within table.threads u less in
    row_set (with_status table u first) u (with_status_in first row.0) (with_status_in last) (started_row table u row.0 first row.1)
    ∙ ap (λ (ts : Threads). record ts { threads = slice_set ts.threads u (with_status_in last row.0) }) (row_set table u row.0 (with_status_in first) row.1)
    ∙ ap (λ ts. record table { threads = ts }) (set-set table.threads u (with_status_in first row.0) (with_status_in last row.0))
    ∙ sym (row_set table u row.0 (with_status_in last) row.1)
