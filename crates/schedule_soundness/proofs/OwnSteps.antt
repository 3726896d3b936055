-- What a thread does to itself: other threads, the monitors and the time stay.
use Rattle.std.proofs.Common.{◌≡◌, ◌≢◌, ℕ, Bool, false, List, [], ◌∷◌, Option, Some, None, refl, subst, ◌∙◌}
use Rattle.std.specs.Prelude.{slice_get}
use Rattle.std.specs.Option.{option_map_or}
use Rattle.items.specs.Options.{◌>>=◌}
use Rattle.items.proofs.Binds.{some_is}
use Rattle.instruction_rows.specs.declared.value.Value.{Value}
use Rattle.instruction_rows.specs.SlotEffect.{pushed}
use Rattle.vthread_state.specs.declared.phase.Phase.{Phase}
use Rattle.vthread_state.specs.declared.phase.Phase.TheVariants.{Run, Throwing}
use Rattle.vthread_state.specs.declared.thread.Status.TheVariants.{Live, Done}
use Rattle.link_model.specs.World.{World, name_number}
use Rattle.state_model.specs.Frames.{Frame}
use Rattle.schedule_model.specs.Look.{is_in_line}
use Rattle.ref_model.specs.declared.exception.Exception.{Exception}
use Rattle.ref_model.specs.declared.exception.Exception.TheVariants.{InterruptedException}
use Rattle.ref_model.specs.Memory.{Memory}
use Rattle.ref_model.specs.State.{JavaThread, State, with_memory, with_thread, with_frames, with_status, with_interrupt}
use Rattle.ref_model.specs.Frames.{behind}
use Rattle.ref_model.specs.Heap.{with_instance}
use Rattle.ref_model.specs.Members.{new_values}
use Rattle.ref_model.specs.Throwing.{exception_name, out_of_memory, throwing, throwing_new, raised, finished}
use Rattle.ref_model.specs.Requests.{Request, reads_clock}
use Rattle.ref_model.specs.Asking.{Asking, goes, gives_back, goes_into, waits, with_run, thrown_interrupted}
use Rattle.ref_model.specs.Looks.{spot_in, phase_deadline}
use Rattle.schedule_soundness.proofs.ThreadLists.{StaysThere, same_there, set_there, set_other, changed_is, with_cases}

pub record OwnMoves (t : ℕ) (r q : State) : Type 0 where
  pub now : q.now ≡ r.now
  pub owners : q.owners ≡ r.owners
  pub others : (u : ℕ) → u ≢ t → slice_get q.threads u ≡ slice_get r.threads u
  pub there : StaysThere t r q

-- what a step asks, if anything, isn't such
abbrev pub AsksNo : (Request → Bool) → Option Request → Type 0
AsksNo test asking = option_map_or test asking false ≡ false

-- a live thread that is in no line, and has no deadline where the step that it made doesn't read the clock
pub record Goes (asking : Option Request) (x : JavaThread) : Type 0 where
  pub phase : Phase
  pub status : x.thread.status ≡ Live phase
  pub loose : is_in_line (spot_in phase) ≡ false
  pub timeless : AsksNo reads_clock asking → phase_deadline phase ≡ None

-- after its step a thread is such, or has ended, or it is in line where it was made so
pub data Settled (asking : Option Request) (y : JavaThread) : Type 0 where
  going : Goes asking y → Settled asking y
  ended : y.thread.status ≡ Done → y.frames ≡ [] → Settled asking y

abbrev pub IsGoing : State → ℕ → Type 0
IsGoing r t = (x : JavaThread) → slice_get r.threads t ≡ Some x → Goes None x

-- what a thread does to itself in a step that asks this, or nothing
pub record OwnStep (t : ℕ) (r q : State) (asking : Option Request) : Type 0 where
  pub moves : OwnMoves t r q
  pub own : (y : JavaThread) → slice_get q.threads t ≡ Some y → Settled asking y

-- ---- how these are made

pub own_change : (r : State) (t : ℕ) (change : JavaThread → JavaThread) → OwnMoves t r (with_thread r t change)
own_change r t change =
    with_cases r t change (OwnMoves t r) (record { now = refl; owners = refl; others = λ u ne. refl; there = same_there t r r refl })
    (λ x e. record {
      now = refl;
      owners = refl;
      others = λ u ne. set_other r.threads t u (change x) ne;
      there = set_there t t r x (change x) e;
    })

pub moves_then : (t : ℕ) (r s q : State) → OwnMoves t r s → OwnMoves t s q → OwnMoves t r q
moves_then t r s q a b =
    record {
      now = b.now ∙ a.now;
      owners = b.owners ∙ a.owners;
      others = λ u ne. b.others u ne ∙ a.others u ne;
      there = λ x at. let y = a.there x at in b.there y.0 y.1;
    }

pub own_then : {asking : Option Request} (t : ℕ) (r s q : State) → OwnMoves t r s → OwnStep t s q asking → OwnStep t r q asking
own_then t r s q a b = record { moves = moves_then t r s q a b.moves; own = b.own }

pub memory_moves : (t : ℕ) (r : State) (memory : Memory) → OwnMoves t r (with_memory r memory)
memory_moves t r memory = record { now = refl; owners = refl; others = λ u ne. refl; there = same_there t r (with_memory r memory) refl }

-- the thread has a status in which it is in no line
pub phase_own : {asking : Option Request} (r : State) (t : ℕ) (phase : Phase) → is_in_line (spot_in phase) ≡ false
    → (AsksNo reads_clock asking → phase_deadline phase ≡ None) → OwnStep t r (with_status r t (Live phase)) asking
phase_own {asking} r t phase loose timeless =
    let change : JavaThread → JavaThread = λ x. record x { thread = record x.thread { status = Live phase } } in
    record {
      moves = own_change r t change;
      own = changed_is r t change (Settled asking) (λ x at. going (record { phase = phase; status = refl; loose = loose; timeless = timeless }));
    }

pub run_going : (r : State) (t : ℕ) → IsGoing (with_run r t) t
run_going r t =
    changed_is r t (λ x. record x { thread = record x.thread { status = Live Run } }) (Goes None)
    (λ x at. record { phase = Run; status = refl; loose = refl; timeless = λ z. refl })

pub frames_own : {asking : Option Request} (r : State) (t : ℕ) (frames : List Frame) → IsGoing r t → OwnStep t r (with_frames r t frames) asking
frames_own {asking} r t frames on =
    let change : JavaThread → JavaThread = λ x. record x { frames = frames } in
    record {
      moves = own_change r t change;
      own = changed_is r t change (Settled asking)
          (λ x at. let g = on x at in going (record { phase = g.phase; status = g.status; loose = g.loose; timeless = λ z. g.timeless refl }));
    }

pub finished_own : {asking : Option Request} (r : State) (t : ℕ) → OwnStep t r (finished r t) asking
finished_own {asking} r t =
    let change : JavaThread → JavaThread = λ x. record x { thread = record x.thread { status = Done }; frames = [] } in
    record { moves = own_change r t change; own = changed_is r t change (Settled asking) (λ x at. ended refl refl) }

pub known : {asking : Option Request} (t : ℕ) (r s q : State) → ◌≡◌ {A = Option State} (Some s) (Some q) → OwnStep t r s asking
    → OwnStep t r q asking
known {asking} t r s q e own = let same : s ≡ q = cc in subst (λ x. OwnStep t r x asking) same own

-- ---- what is asked ends so

pub back_own : {asking : Option Request} (r q : State) (t : ℕ) (a : Asking) (o : Option Frame) → IsGoing r t
    → (o >>= λ g. Some (with_frames r t (g ∷ a.below))) ≡ Some q → OwnStep t r q asking
back_own r q t a o on e =
    let g = some_is o (λ g. Some (with_frames r t (g ∷ a.below))) q e in
    known t r (with_frames r t (g.0 ∷ a.below)) q g.2 (frames_own r t (g.0 ∷ a.below) on)

pub goes_own : {asking : Option Request} (r q : State) (t : ℕ) (a : Asking) → IsGoing r t → goes r t a ≡ Some q → OwnStep t r q asking
goes_own r q t a on e = back_own r q t a (behind a.frame a.next a.stack) on e

pub back_value : {asking : Option Request} (r q : State) (t : ℕ) (a : Asking) (v : Value) → IsGoing r t → gives_back r t a v ≡ Some q
    → OwnStep t r q asking
back_value r q t a v on e = back_own r q t a (behind a.frame a.next (pushed v a.stack)) on e

pub into_own : {asking : Option Request} (r q : State) (t : ℕ) (a : Asking) (g : Frame) → IsGoing r t → goes_into r t a g ≡ Some q
    → OwnStep t r q asking
into_own r q t a g on e =
    let frames = g ∷ record a.frame { stack = a.stack } ∷ a.below in known t r (with_frames r t frames) q e (frames_own r t frames on)

pub waits_own : {asking : Option Request} (r q : State) (t : ℕ) (phase : Phase) → is_in_line (spot_in phase) ≡ false
    → (AsksNo reads_clock asking → phase_deadline phase ≡ None) → waits r t phase ≡ Some q → OwnStep t r q asking
waits_own r q t phase loose timeless e = known t r (with_status r t (Live phase)) q e (phase_own r t phase loose timeless)

-- ---- what is thrown

pub throwing_own : {asking : Option Request} (r : State) (t o : ℕ) → OwnStep t r (throwing r t o) asking
throwing_own r t o = phase_own r t (Throwing o) refl (λ z. refl)

new_own : {asking : Option Request} (r : State) (t : ℕ) (o : Option (Memory × ℕ)) → OwnStep t r (throwing_new r t o) asking
new_own r t None = throwing_own r t out_of_memory
new_own r t (Some x) =
    own_then t r (with_memory r x.0) (throwing (with_memory r x.0) t x.1) (memory_moves t r x.0) (throwing_own (with_memory r x.0) t x.1)

pub raised_own : {asking : Option Request} (w : World) (r q : State) (t : ℕ) (x : Exception) → raised w r t x ≡ Some q → OwnStep t r q asking
raised_own w r q t x e =
    let class = some_is (name_number w (exception_name x))
    (λ class. Some (throwing_new r t (with_instance r.memory class (new_values w class)))) q e in
    let o = with_instance r.memory class.0 (new_values w class.0) in
    known t r (throwing_new r t o) q class.2 (new_own r t o)

pub interrupted_own : {asking : Option Request} (w : World) (r q : State) (t : ℕ) → thrown_interrupted w r t ≡ Some q → OwnStep t r q asking
interrupted_own w r q t e =
    own_then t r (with_interrupt r t false) q (own_change r t (λ x. record x { interrupted = false }))
    (raised_own w (with_interrupt r t false) q t InterruptedException e)
