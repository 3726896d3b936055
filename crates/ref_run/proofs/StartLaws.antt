-- A thread is started.
use Rattle.std.proofs.Common.{◌≡◌, ◌≢◌, ℕ, zero, suc, ◌+◌, ◌<◌, ◌-◌, ◌++◌, Bool, true, false, List, [], ◌∷◌, Option, Some, None, refl, ap, sym, ◌∙◌, arith}
use Rattle.std.specs.Prelude.{nat_le, replicate, slice_get, slice_set, if◌then◌else◌, IfOk, Result, Ok, Err}
use Rattle.std.specs.Option.{option_map, option_map_or}
use Rattle.std.proofs.lemmas.Bool.{le-leb}
use Rattle.items.specs.Options.{◌>>=◌}
use Rattle.items.proofs.Binds.{bind_is}
use Rattle.instruction_rows.specs.declared.value.Value.TheVariants as values
use Rattle.instruction_rows.specs.declared.value.Slot.{Slot}
use Rattle.instruction_rows.specs.declared.value.Slot.TheVariants.{One, Second}
use Rattle.vthread_state.specs.declared.phase.Phase.{Phase}
use Rattle.vthread_state.specs.declared.phase.Phase.TheVariants.{Run, Entering}
use Rattle.vthread_state.specs.declared.thread.Status.{Status}
use Rattle.vthread_state.specs.declared.thread.Status.TheVariants.{New, Live, Done}
use Rattle.link_rules.specs.declared.choice.Choice.{Choice}
use Rattle.link_model.specs.World.{World}
use Rattle.link_model.specs.Decoded.{code_at}
use Rattle.link_model.specs.Initializers.{is_synchronized}
use Rattle.link_model.specs.declared.members.MethodCode.{MethodCode}
use Rattle.link_model.specs.declared.members.MethodInfo.{MethodInfo}
use Rattle.link_model.specs.Methods.{choice_of}
use Rattle.state_model.specs.Frames.{Frame}
use Rattle.continuation.specs.Continuation.{Continuation}
use Rattle.frames.specs.Frames.{with_local}
use Rattle.ref_model.specs.declared.exception.Exception.TheVariants as exceptions
use Rattle.ref_model.specs.Asking.{Asking, goes}
use Rattle.ref_model.specs.Frames.{first_frame}
use Rattle.ref_model.specs.Heap.{class_at}
use Rattle.ref_model.specs.Monitors.{with_monitor}
use Rattle.ref_model.specs.Opening.{guarded_by}
use Rattle.ref_model.specs.Starting.{begun_by, begun_with, first_phase, run_choice, run_frame, run_method, started, started_in, with_begun}
use Rattle.ref_model.specs.State.{JavaThread, State}
use Rattle.ref_model.specs.Throwing.{raised}
use Rattle.ref_model.specs.declared.request.ThreadRequest.TheVariants as requests
use Rattle.ref_run.specs.declared.reply.Reply.TheVariants as replies
use Rattle.ref_run.specs.declared.starting.First.{First}
use Rattle.ref_run.specs.declared.starting.Start.{Start}
use Rattle.ref_run.specs.declared.starting.Start.TheVariants.{Begins, Throws}
use Rattle.ref_run.specs.Replies.{IsAnswered}
use Rattle.ref_run.specs.Starting.{IsFirst, IsPushed, IsRun, IsStart, StartGives, begin_phase, run_monitor}
use Rattle.ref_run.specs.States.{frames_of}

-- ---- the first frame

-- the frame of a method on an object
abbrev pub object_frame : ℕ → MethodCode → ℕ → Frame
object_frame method code object = record {
  method = method;
  pc = 0;
  locals = One (values.Ref object) ∷ replicate (code.max_locals - 1) Second;
  stack = [];
  room = code.max_stack;
}

first_is : (method : ℕ) (code : MethodCode) (object : ℕ) → 0 < code.max_locals
    → first_frame method code (One (values.Ref object) ∷ []) ≡ Some (object_frame method code object)
first_is method code object some = by (nat_le 1 code.max_locals) (le-leb 1 code.max_locals some)
  where
    found : Option Frame
    found = Some (object_frame method code object)

    by : (b : Bool) → b ≡ true → (if b then found else None) ≡ found
    by true e = refl
    by false e = absurd cc

set_first : (n : ℕ) (slot : Slot) → 0 < n → slice_set (replicate n Second) 0 slot ≡ slot ∷ replicate (n - 1) Second
set_first zero slot some = absurd (omega arith)
set_first (suc n) slot some = let less : suc n - 1 ≡ n = omega arith in ap (λ k. slot ∷ replicate k Second) (sym less)

pub first_made : (method : ℕ) (code : MethodCode) (object : ℕ) (m : Continuation) → 0 < code.max_locals → IsPushed method code object code.max_locals m → IsFirst method code object None m
first_made method code object m some pushed =
    let whole : code.max_locals - 0 ≡ code.max_locals = omega arith in
    let locals : slice_set (replicate (code.max_locals - 0) Second) 0 (One (values.Ref object)) ≡ One (values.Ref object) ∷ replicate (code.max_locals - 1) Second =
    ap (λ n. slice_set (replicate n Second) 0 (One (values.Ref object))) whole ∙ set_first code.max_locals (One (values.Ref object)) some in
    record {
      frame = object_frame method code object;
      is = first_is method code object some;
      frames = pushed ∙ ap (λ slots. record (object_frame method code object) { locals = slots } ∷ []) locals;
    }

-- the last local variable is set
set_end : (n : ℕ) (slot : Slot) → slice_set (replicate (suc n) Second) n slot ≡ replicate n Second ++ slot ∷ []
set_end zero slot = refl
set_end (suc n) slot = ap (λ xs. Second ∷ xs) (set_end n slot)

set_both : (n : ℕ) (first last : Slot) → 0 < n → slice_set (slice_set (replicate (n + 1 - 0) Second) 0 first) n last ≡ (first ∷ replicate (n - 1) Second) ++ last ∷ []
set_both zero first last some = absurd (omega arith)
set_both (suc n) first last some =
    let more : suc n + 1 - 0 ≡ suc (suc n) = omega arith in
    let less : suc n - 1 ≡ n = omega arith in
    ap (λ k. slice_set (slice_set (replicate k Second) 0 first) (suc n) last) more ∙ ap (λ xs. first ∷ xs) (set_end n last)
    ∙ ap (λ k. (first ∷ replicate k Second) ++ last ∷ []) (sym less)

-- the same with one more local variable, the last, which holds a monitor
pub guarded_made : (method : ℕ) (code : MethodCode) (object o : ℕ) (m k : Continuation) → 0 < code.max_locals → IsPushed method code object (code.max_locals + 1) m
    → k.stack.frames ≡ with_local code.max_locals (One (values.Ref o)) m.stack.frames → IsFirst method code object (Some o) k
guarded_made method code object o m k some pushed set =
    record {
      frame = object_frame method code object;
      is = first_is method code object some;
      frames = set ∙ ap (with_local code.max_locals (One (values.Ref o))) pushed
          ∙ ap (λ slots. record (object_frame method code object) { locals = slots } ∷ []) (set_both code.max_locals (One (values.Ref object)) (One (values.Ref o)) some);
    }

-- ---- the method that begins

phase_is : (m : MethodInfo) (object : ℕ) → first_phase m object ≡ begin_phase (run_monitor m object)
phase_is m object = by (is_synchronized m)
  where
    by : (b : Bool) → (if b then Entering object else Run) ≡ begin_phase (if b then Some object else None)
    by true = refl
    by false = refl

frame_is : (m : MethodInfo) (object : ℕ) (f : Frame) → run_frame m object f ≡ guarded_by (run_monitor m object) f
frame_is m object f = by (is_synchronized m)
  where
    by : (b : Bool) → (if b then with_monitor f object else f) ≡ guarded_by (if b then Some object else None) f
    by true = refl
    by false = refl

pub run_begins : (w : World) (u object method : ℕ) (code : MethodCode) (m : MethodInfo) (k : First) → code_at w method ≡ Some code → slice_get w.methods method ≡ Some m
    → k.monitor ≡ run_monitor m object → IsFirst method code object k.monitor k.mounted → IsRun w u object method (Begins k)
run_begins w u object method code m k there at monitor first r =
    let frame : Frame = guarded_by k.monitor first.frame in
    let phase : Phase = begin_phase k.monitor in
    record {
      frame = frame;
      frames = first.frames;
      begins = λ t a. ap (λ o. begun_with w r t a u object method o) there
          ∙ bind_is (slice_get w.methods method) (λ m. first_frame method code (One (values.Ref object) ∷ []) >>= λ f. goes (with_begun r u (first_phase m object) (run_frame m object f)) t a)
          m (goes (with_begun r u phase frame) t a) at
          (bind_is (first_frame method code (One (values.Ref object) ∷ [])) (λ f. goes (with_begun r u (first_phase m object) (run_frame m object f)) t a) first.frame
          (goes (with_begun r u phase frame) t a) first.is
          (λ i. goes (with_begun r u ((phase_is m object ∙ ap begin_phase (sym monitor)) i) ((frame_is m object first.frame ∙ ap (λ o. guarded_by o first.frame) (sym monitor)) i)) t a));
    }

-- ---- what a start comes to

-- only a new thread is started
pub not_new : (w : World) (u : ℕ) (r : State) (x : JavaThread) → slice_get r.threads u ≡ Some x → (x.thread.status ≡ New → ⊥)
    → IsStart w u r (Throws exceptions.IllegalThreadStateException)
not_new w u r x there other t k =
    bind_is (slice_get r.threads u) (λ x. started_in w r t k u x.thread.object x.thread.status) x (raised w r t exceptions.IllegalThreadStateException) there
    (by x.thread.status other)
  where
    by : (status : Status) → (status ≡ New → ⊥) → started_in w r t k u x.thread.object status ≡ raised w r t exceptions.IllegalThreadStateException
    by New differs = absurd (differs refl)
    by (Live phase) differs = refl
    by Done differs = refl

-- What is selected as the run of a new thread begins.
pub is_selected : (w : World) (u : ℕ) (r : State) (x : JavaThread) (run class : ℕ) (choice : Choice) (start : Start) → slice_get r.threads u ≡ Some x → x.thread.status ≡ New
    → run_method w ≡ Some run → class_at w r.memory x.thread.object ≡ Some class → choice_of w class run ≡ Some choice
    → StartGives w u r start (λ t k. begun_by w r t k u x.thread.object choice) → IsStart w u r start
is_selected w u r x run class choice start there new run_is class_is chosen gives = by start gives
  where
    selected : run_choice w r.memory x.thread.object ≡ Some choice
    selected =
        bind_is (run_method w) (λ n. class_at w r.memory x.thread.object >>= λ class. choice_of w class n) run (Some choice) run_is
        (bind_is (class_at w r.memory x.thread.object) (λ class. choice_of w class run) class (Some choice) class_is chosen)

    same : (t : ℕ) (k : Asking) → started w r t k u ≡ begun_by w r t k u x.thread.object choice
    same t k =
        bind_is (slice_get r.threads u) (λ x. started_in w r t k u x.thread.object x.thread.status) x (begun_by w r t k u x.thread.object choice) there
        (ap (started_in w r t k u x.thread.object) new
        ∙ bind_is (run_choice w r.memory x.thread.object) (begun_by w r t k u x.thread.object) choice (begun_by w r t k u x.thread.object choice) selected refl)

    by : (start : Start) → StartGives w u r start (λ t k. begun_by w r t k u x.thread.object choice) → IsStart w u r start
    by (Begins k) g = record { frame = g.frame; frames = g.frames; begins = λ t a. same t a ∙ g.begins t a }
    by (Throws e) g = λ t a. same t a ∙ g t a

-- ---- the thread has begun

-- the frames of another thread stay
pub set_other : {A : Type 0} (xs : List A) (u t : ℕ) (y : A) → t ≢ u → slice_get (slice_set xs u y) t ≡ slice_get xs t
set_other [] u t y ne = refl
set_other (x ∷ xs) zero zero y ne = absurd (ne refl)
set_other (x ∷ xs) zero (suc t) y ne = refl
set_other (x ∷ xs) (suc u) zero y ne = refl
set_other (x ∷ xs) (suc u) (suc t) y ne = set_other xs u t y (λ e. ne (ap suc e))

pub others_frames : (r : State) (u t : ℕ) (phase : Phase) (f : Frame) → t ≢ u → frames_of (with_begun r u phase f) t ≡ frames_of r t
others_frames r u t phase f ne = by (slice_get r.threads u)
  where
    begun : JavaThread → JavaThread
    begun x = record x { thread = record x.thread { status = Live phase }; frames = f ∷ [] }

    by : (o : Option JavaThread) → frames_of (option_map_or (λ x. record r { threads = slice_set r.threads u (begun x) }) o r) t ≡ frames_of r t
    by None = refl
    by (Some x) = ap (λ o. option_map (λ (z : JavaThread). z.frames) o) (set_other r.threads u t (begun x) ne)

-- The request leads to a state in which thread u, another one, has begun.
pub start_answered : (w : World) (t u : ℕ) (r s : State) (k : First) → t ≢ u → IsStart w u r (Begins k)
    → ((f : Frame) → k.mounted.stack.frames ≡ f ∷ [] → s ≡ with_begun r u (begin_phase k.monitor) f) → IsAnswered w (requests.Starts u) t r replies.Goes s
start_answered w t u r s k other start begun =
    let is = begun start.frame start.frames in
    record {
      same = λ a. start.begins t a ∙ ap (λ (q : State). goes q t a) (sym is);
      frames = ap (λ (q : State). frames_of q t) is ∙ others_frames r u t (begin_phase k.monitor) start.frame other;
    }

-- what holds of the value on success leads to another fact
pub if_ok : {A E : Type 0} (P Q : A → Type 0) (r : Result A E) → IfOk r P → ((x : A) → P x → Q x) → IfOk r Q
if_ok P Q (Ok x) is f = f x is
if_ok P Q (Err e) is f = tt
