-- Threads that are made and started.
use Rattle.std.proofs.Common.{◌≡◌, ◌≢◌, ◌⊎◌, inl, inr, eqb, ℕ, ◌-◌, Bool, true, false, List, [], ◌∷◌, ◌++◌, Option, Some, None, refl, ap, sym, subst, ◌∙◌}
use Rattle.std.specs.Prelude.{length, nat_le, replicate, slice_get, slice_set, if◌then◌else◌}
use Rattle.std.proofs.lemmas.Bool.Decides.{eqb_tells}
use Rattle.items.specs.Options.{◌>>=◌}
use Rattle.items.proofs.Binds.{some_is}
use Rattle.link_rules.specs.declared.choice.Choice.{Choice}
use Rattle.link_rules.specs.declared.choice.Choice.TheVariants.{Method, Abstract, Several}
use Rattle.link_rules.specs.declared.place.MemberPlace.{MemberPlace}
use Rattle.link_rules.specs.Members.{method_number}
use Rattle.instruction_rows.specs.declared.value.Value.TheVariants as values
use Rattle.instruction_rows.specs.declared.value.Slot.{Slot}
use Rattle.instruction_rows.specs.declared.value.Slot.TheVariants.{One, Second}
use Rattle.vthread_state.specs.declared.phase.Phase.TheVariants.{Run, Entering}
use Rattle.vthread_state.specs.declared.thread.Status.{Status}
use Rattle.vthread_state.specs.declared.thread.Status.TheVariants.{New, Live, Done}
use Rattle.vthread_state.specs.declared.thread.ThreadKind.{ThreadKind}
use Rattle.link_model.specs.declared.members.MethodInfo.{MethodInfo}
use Rattle.link_model.specs.declared.members.MethodCode.{MethodCode}
use Rattle.link_model.specs.Initializers.{is_synchronized}
use Rattle.link_model.specs.Methods.{choice_of}
use Rattle.link_model.specs.World.{World}
use Rattle.link_model.specs.Decoded.{code_at}
use Rattle.state_model.specs.Frames.{Frame}
use Rattle.ref_model.specs.declared.exception.Exception.TheVariants.{AbstractMethodError, IllegalThreadStateException, IncompatibleClassChangeError, OutOfMemoryError}
use Rattle.ref_model.specs.Memory.{Memory}
use Rattle.ref_model.specs.State.{JavaThread, State, with_thread}
use Rattle.ref_model.specs.Heap.{class_at}
use Rattle.ref_model.specs.Frames.{first_frame}
use Rattle.ref_model.specs.Monitors.{with_monitor}
use Rattle.ref_model.specs.ThreadNatives.{with_number}
use Rattle.ref_model.specs.Requests.{Request, starts}
use Rattle.ref_model.specs.Asking.{Asking, goes}
use Rattle.ref_model.specs.Starting.{unnamed_after, first_daemon, name_made, made_thread, with_new_thread, made_or_thrown, may_create, created, run_method, run_choice, run_frame, first_phase, with_begun, begun_with, begun_by, started_in, started as started_state}
use Rattle.ref_model.proofs.StateLaws.{get_set}
use Rattle.step_soundness.proofs.Starts.{either}
use Rattle.schedule_soundness.specs.Moves.{started, IsStarted}
use Rattle.schedule_soundness.proofs.ThreadLists.{set_other, more, with_cases, same_some, not_none}
use Rattle.schedule_soundness.proofs.OwnSteps.{IsGoing, goes_own, raised_own}
use Rattle.schedule_soundness.proofs.OtherMoves.{SomeMoves, StepMoves, moves_after, own_moves, one_moves, made_moves}

-- a thread that asks runs
abbrev pub Runs : State → ℕ → Type 0
Runs r t = (x : JavaThread) → slice_get r.threads t ≡ Some x → x.thread.status ≡ Live Run

pub still_going : (r : State) (t : ℕ) → Runs r t → IsGoing r t
still_going r t on = λ x at. record { phase = Run; status = on x at; loose = refl; timeless = λ z. refl }

-- a change of one thread that leaves a thread running
pub runs_with : (r : State) (t u : ℕ) (change : JavaThread → JavaThread)
    → ((x : JavaThread) → x.thread.status ≡ Live Run → (change x).thread.status ≡ Live Run) → Runs r t → Runs (with_thread r u change) t
runs_with r t u change keeps on = with_cases r u change (λ s. Runs s t) on (λ x e y at. by x e y at (eqb_tells u t))
  where
    by : (x : JavaThread) → slice_get r.threads u ≡ Some x → (y : JavaThread) → slice_get (slice_set r.threads u (change x)) t ≡ Some y
        → ((eqb u t ≡ true) × (u ≡ t)) ⊎ ((eqb u t ≡ false) × (u ≢ t)) → y.thread.status ≡ Live Run
    by x e y at (inl me) =
        let there : slice_get (slice_set r.threads u (change x)) t ≡ Some (change x) =
        ap (λ n. slice_get (slice_set r.threads u (change x)) n) (sym me.1) ∙ get_set r.threads u x (change x) e in
        let same = same_some (slice_get (slice_set r.threads u (change x)) t) (change x) y there at in
        ap (λ (z : JavaThread). z.thread.status) (sym same) ∙ keeps x (on x (ap (slice_get r.threads) (sym me.1) ∙ e))
    by x e y at (inr other) = on y (sym (set_other r.threads u t (change x) (λ z. other.1 (sym z))) ∙ at)

-- ---- a thread is made

-- there is a thread that runs, and it is another than the new one
runs_with_more : (r : State) (t : ℕ) (memory : Memory) (unnamed : ℕ) (x creator : JavaThread) → slice_get r.threads t ≡ Some creator → Runs r t
    → Runs (with_new_thread r memory unnamed x) t
runs_with_more r t memory unnamed x creator there on y at = by (more r.threads x t)
  where
    by : (slice_get (r.threads ++ x ∷ []) t ≡ slice_get r.threads t) ⊎ ((slice_get r.threads t ≡ None) × (slice_get (r.threads ++ x ∷ []) t ≡ Some x))
        → y.thread.status ≡ Live Run
    by (inl same) = on y (sym same ∙ at)
    by (inr last) = absurd (not_none (slice_get r.threads t) creator last.0 there)

pub created_moves : {asking : Option Request} (w : World) (r q : State) (t : ℕ) (a : Asking) (kind : ThreadKind) (object : ℕ) (name : Option ℕ) → Runs r t
    → created w r t a kind object name ≡ Some q → StepMoves w t r q asking
created_moves {asking} w r q t a kind object name on e =
    either (may_create r) (slice_get r.threads t >>= λ creator. made_or_thrown w r t a kind object name creator (name_made kind r name)) None q
    (λ e. let creator = some_is (slice_get r.threads t) (λ creator. made_or_thrown w r t a kind object name creator (name_made kind r name)) q e in
    by creator.0 creator.1 (name_made kind r name) creator.2) (λ e. absurd cc) e
  where
    by : (creator : JavaThread) → slice_get r.threads t ≡ Some creator → (o : Option (Memory × ℕ))
        → made_or_thrown w r t a kind object name creator o ≡ Some q → StepMoves w t r q asking
    by creator there None e = own_moves w t r q (raised_own w r q t OutOfMemoryError e)
    by creator there (Some named) e =
        let daemon = first_daemon kind creator in
        let x : JavaThread = made_thread kind daemon object named.1 in
        let m = some_is (with_number named.0 object (length r.threads))
        (λ memory. goes (with_new_thread r memory (unnamed_after kind name r) x) t a) q e in
        let s = with_new_thread r m.0 (unnamed_after kind name r) x in
        moves_after w t r s q (made_moves w t r m.0 (unnamed_after kind name r) x refl refl)
        (goes_own s q t a (still_going s t (runs_with_more r t m.0 (unnamed_after kind name r) x creator there on)) m.2)

-- ---- a thread is started

inner_frame : (x y : Frame) → Some x ≡ Some y → x ≡ y
inner_frame x y e = cc

pub method_is : (n : ℕ) (code : MethodCode) (slots : List Slot) (f : Frame) → first_frame n code slots ≡ Some f → f.method ≡ n
method_is n code slots f e = by (nat_le (length slots) code.max_locals) e
  where
    g : Frame
    g = record {
      method = n;
      pc = 0;
      locals = slots ++ replicate (code.max_locals - length slots) Second;
      stack = [];
      room = code.max_stack;
    }

    by : (b : Bool) → (if b then Some g else None) ≡ Some f → f.method ≡ n
    by true e = ap (λ (h : Frame). h.method) (sym (inner_frame g f e))
    by false e = absurd cc

guarded_is : (m : MethodInfo) (object : ℕ) (f : Frame) → (run_frame m object f).method ≡ f.method
guarded_is m object f = by (is_synchronized m)
  where
    by : (b : Bool) → (if b then with_monitor f object else f).method ≡ f.method
    by true = refl
    by false = refl

-- a thread that is begun by a method that was selected
begins : (w : World) (class run object : ℕ) (at : MemberPlace) (m : MethodInfo) (f : Frame) (x : JavaThread) → run_method w ≡ Some run
    → choice_of w class run ≡ Some (Method at) → slice_get w.methods (method_number w.program at) ≡ Some m → f.method ≡ method_number w.program at
    → IsStarted w (record x { thread = record x.thread { status = Live (first_phase m object) }; frames = run_frame m object f ∷ [] })
begins w class run object at m f x run_is chosen there method =
    record {
      class = class;
      run = run;
      at = at;
      method = m;
      frame = run_frame m object f;
      run_is = run_is;
      chosen = chosen;
      there = there;
      frames = refl;
      frame_is = guarded_is m object f ∙ method;
      phase = by (is_synchronized m);
    }
  where
    by : (b : Bool) → (Live (if b then Entering object else Run) ≡ Live Run) ⊎ ((o : ℕ) × (Live (if b then Entering object else Run) ≡ Live (Entering o)))
    by true = inr (object, refl)
    by false = inl refl

-- another thread than the one that runs has begun
runs_beside : (r : State) (t u : ℕ) (change : JavaThread → JavaThread) → u ≢ t → Runs r t → Runs (with_thread r u change) t
runs_beside r t u change ne on =
    with_cases r u change (λ s. Runs s t) on (λ x e y at. on y (sym (set_other r.threads u t (change x) (λ z. ne (sym z))) ∙ at))

pub started_moves : (w : World) (r q : State) (t : ℕ) (a : Asking) (u : ℕ) → Runs r t → started_state w r t a u ≡ Some q → StepMoves w t r q (Some (starts u))
started_moves w r q t a u on e =
    let x = some_is (slice_get r.threads u) (λ x. started_in w r t a u x.thread.object x.thread.status) q e in
    by x.0 x.1 x.0.thread.object x.0.thread.status refl x.2
  where
    by_code : (x : JavaThread) → slice_get r.threads u ≡ Some x → x.thread.status ≡ New → (class run object : ℕ) (at : MemberPlace) → run_method w ≡ Some run
        → choice_of w class run ≡ Some (Method at) → (o : Option MethodCode) → begun_with w r t a u object (method_number w.program at) o ≡ Some q
        → StepMoves w t r q (Some (starts u))
    by_code x there new class run object at run_is chosen None e = own_moves w t r q (raised_own w r q t AbstractMethodError e)
    by_code x there new class run object at run_is chosen (Some code) e =
        let n = method_number w.program at in
        let m = some_is (slice_get w.methods n) (λ m. first_frame n code (One (values.Ref object) ∷ []) >>= λ f.
        goes (with_begun r u (first_phase m object) (run_frame m object f)) t a) q e in
        let f = some_is (first_frame n code (One (values.Ref object) ∷ []))
        (λ f. goes (with_begun r u (first_phase m.0 object) (run_frame m.0 object f)) t a) q m.2 in
        let change : JavaThread → JavaThread =
        λ y. record y { thread = record y.thread { status = Live (first_phase m.0 object) }; frames = run_frame m.0 object f.0 ∷ [] } in
        let s = with_thread r u change in
        let ne : u ≢ t = λ same. new_runs x new (on x (subst (λ k. slice_get r.threads k ≡ Some x) same there)) in
        let method = method_is n code (One (values.Ref object) ∷ []) f.0 f.1 in
        let moves : SomeMoves w t r s (Some (starts u)) =
        one_moves w t r u change (λ z. absurd cc) (λ y other here. started y (change y) refl refl
        (ap (λ (z : JavaThread). z.thread.status) (same_some (slice_get r.threads u) y x here there) ∙ new)
        (begins w class run object at m.0 f.0 y run_is chosen m.1 method)) in
        moves_after w t r s q moves (goes_own s q t a (still_going s t (runs_beside r t u change ne on)) f.2)
      where
        new_runs : (x : JavaThread) → x.thread.status ≡ New → x.thread.status ≡ Live Run → ⊥
        new_runs x a b = let z : New ≡ Live Run = sym a ∙ b in cc

    by_choice : (x : JavaThread) → slice_get r.threads u ≡ Some x → x.thread.status ≡ New → (class run object : ℕ) (choice : Choice) → run_method w ≡ Some run
        → choice_of w class run ≡ Some choice → begun_by w r t a u object choice ≡ Some q → StepMoves w t r q (Some (starts u))
    by_choice x there new class run object Abstract run_is chosen e = own_moves w t r q (raised_own w r q t AbstractMethodError e)
    by_choice x there new class run object Several run_is chosen e = own_moves w t r q (raised_own w r q t IncompatibleClassChangeError e)
    by_choice x there new class run object (Method at) run_is chosen e =
        by_code x there new class run object at run_is chosen (code_at w (method_number w.program at)) e

    by : (x : JavaThread) → slice_get r.threads u ≡ Some x → (object : ℕ) (status : Status) → x.thread.status ≡ status
        → started_in w r t a u object status ≡ Some q → StepMoves w t r q (Some (starts u))
    by x there object New new e =
        let choice = some_is (run_choice w r.memory object) (begun_by w r t a u object) q e in
        let n = some_is (run_method w) (λ n. class_at w r.memory object >>= λ class. choice_of w class n) choice.0 choice.1 in
        let class = some_is (class_at w r.memory object) (λ class. choice_of w class n.0) choice.0 n.2 in
        by_choice x there new class.0 n.0 object choice.0 n.1 class.2 choice.2
    by x there object (Live phase) new e = own_moves w t r q (raised_own w r q t IllegalThreadStateException e)
    by x there object Done new e = own_moves w t r q (raised_own w r q t IllegalThreadStateException e)
