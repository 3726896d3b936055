-- One thread, or the memory, of a state that keeps to the typing is changed.
use Rattle.std.proofs.Common.{◌≡◌, ◌⊎◌, inl, inr, ℕ, List, [], Option, Some, None, refl, ap, sym, subst, ◌∙◌}
use Rattle.std.specs.Prelude.{slice_get, slice_set}
use Rattle.std.specs.Option.{option_map_or}
use Rattle.vthread_state.specs.declared.phase.Phase.{Phase}
use Rattle.vthread_state.specs.declared.phase.Phase.TheVariants.{Throwing}
use Rattle.vthread_state.specs.declared.thread.Status.{Status}
use Rattle.vthread_state.specs.declared.thread.Status.TheVariants.{New, Live, Done}
use Rattle.link_model.specs.World.{World}
use Rattle.state_model.specs.Frames.{Frame}
use Rattle.ref_model.specs.Memory.{Memory}
use Rattle.ref_model.specs.State.{JavaThread, State, with_memory, with_thread, with_frames}
use Rattle.ref_model.specs.Throwing.{throwing, finished}
use Rattle.frame_soundness.specs.Typed.{Typed, Thrown}
use Rattle.frame_soundness.specs.StateKinds.{MemoryFits}
use Rattle.frame_soundness.specs.TypedStates.{AreOfPhase, AreOfStatus, IsTypedThread, IsTypedState}
use Rattle.frame_soundness.specs.ThrowLaws.{OfFrames}
use Rattle.frame_soundness.proofs.Exceptions.{thrown}
use Rattle.frame_soundness.proofs.FieldLaws.{set_at}

-- another memory whose values have their kinds
pub memory_keeps : (w : World) (r : State) (memory : Memory) → IsTypedState w r → MemoryFits w memory → IsTypedState w (with_memory r memory)
memory_keeps w r memory typed fits = record { values = fits; threads = typed.threads }

-- ---- one thread

pub thread_set : (w : World) (r : State) (t : ℕ) (y : JavaThread) → IsTypedState w r → IsTypedThread w y
    → IsTypedState w (record r { threads = slice_set r.threads t y })
thread_set w r t y typed good = record {
  values = typed.values;
  threads = λ p x e. by p x (set_at r.threads t y p x e);
}
  where
    by : (p : ℕ) (x : JavaThread) → (x ≡ y) ⊎ (slice_get r.threads p ≡ Some x) → IsTypedThread w x
    by p x (inl same) = subst (IsTypedThread w) (sym same) good
    by p x (inr e) = typed.threads p x e

pub thread_changed : (w : World) (r : State) (t : ℕ) (change : JavaThread → JavaThread) → IsTypedState w r
    → ((x : JavaThread) → slice_get r.threads t ≡ Some x → IsTypedThread w (change x)) → IsTypedState w (with_thread r t change)
thread_changed w r t change typed good = by (slice_get r.threads t) refl
  where
    by : (o : Option JavaThread) → slice_get r.threads t ≡ o
        → IsTypedState w (option_map_or (λ thread. record r { threads = slice_set r.threads t (change thread) }) o r)
    by None e = typed
    by (Some x) e = thread_set w r t (change x) typed (good x e)

-- ---- its frames

-- frames that keep to the typing do so in each status
of_phase : (w : World) (frames : List Frame) (phase : Phase) → Typed w frames → AreOfPhase w frames phase
of_phase w frames (Throwing o) typed = thrown w frames typed
of_phase w frames phase typed = typed

of_status : (w : World) (frames : List Frame) (status : Status) → Typed w frames → AreOfStatus w frames status
of_status w frames New typed = tt
of_status w frames (Live phase) typed = of_phase w frames phase typed
of_status w frames Done typed = tt

pub frames_keep : (w : World) (r : State) (t : ℕ) (frames : List Frame) → IsTypedState w r → Typed w frames
    → IsTypedState w (with_frames r t frames)
frames_keep w r t frames typed good =
    thread_changed w r t (λ thread. record thread { frames = frames }) typed (λ x at. of_status w frames x.thread.status good)

-- of a thread that throws
pub thrown_keep : (w : World) (r : State) (t o : ℕ) (thread : JavaThread) (frames : List Frame) → IsTypedState w r
    → slice_get r.threads t ≡ Some thread → thread.thread.status ≡ Live (Throwing o) → Thrown w frames
    → IsTypedState w (with_frames r t frames)
thrown_keep w r t o thread frames typed at status good =
    thread_changed w r t (λ thread. record thread { frames = frames }) typed (λ x there.
    let same = same_thread (slice_get r.threads t) thread x at there in
    subst (AreOfStatus w frames) (sym status ∙ ap (λ (y : JavaThread). y.thread.status) same) good)
  where
    same_thread : (m : Option JavaThread) (a b : JavaThread) → m ≡ Some a → m ≡ Some b → a ≡ b
    same_thread m a b x y = cc

-- ---- its status

pub throwing_keeps : (w : World) (r : State) (t o : ℕ) → IsTypedState w r → OfFrames r t (Thrown w) → IsTypedState w (throwing r t o)
throwing_keeps w r t o typed good =
    thread_changed w r t (λ thread. record thread { thread = record thread.thread { status = Live (Throwing o) } }) typed (λ x at. good x at)

pub finished_keeps : (w : World) (r : State) (t : ℕ) → IsTypedState w r → IsTypedState w (finished r t)
finished_keeps w r t typed =
    thread_changed w r t (λ thread. record thread { thread = record thread.thread { status = Done }; frames = [] }) typed (λ x at. tt)
