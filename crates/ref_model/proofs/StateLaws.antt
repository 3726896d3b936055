-- A state in which one thread has changed.
use Rattle.std.proofs.Common.{◌≡◌, ℕ, zero, suc, Bool, List, [], ◌∷◌, Some, refl, ap, ◌∙◌, sym}
use Rattle.std.specs.Prelude.{slice_get, slice_set, ◌||◌}
use Rattle.std.specs.List.{list_any}
use Rattle.std.proofs.lemmas.List.{set-set}
use Rattle.vthread_state.specs.declared.phase.Phase.TheVariants.{Run}
use Rattle.vthread_state.specs.declared.thread.Status.{Status}
use Rattle.vthread_state.specs.declared.thread.Status.TheVariants.{New, Live, Done}
use Rattle.state_model.specs.Frames.{Frame}
use Rattle.items.proofs.Binds.{some_is}
use Rattle.ref_model.specs.State.{JavaThread, State, with_frames}
use Rattle.ref_model.specs.Ending.{ending, keeps_going}
use Rattle.ref_model.specs.Entries.{running_frames, frames_at}

-- ---- lists

pub get_set : {A : Type 0} (xs : List A) (t : ℕ) (x y : A) → slice_get xs t ≡ Some x → slice_get (slice_set xs t y) t ≡ Some y
get_set [] t x y e = absurd cc
get_set (a ∷ xs) zero x y e = refl
get_set (a ∷ xs) (suc t) x y e = get_set xs t x y e

pub set_same : {A : Type 0} (xs : List A) (t : ℕ) (x : A) → slice_get xs t ≡ Some x → slice_set xs t x ≡ xs
set_same [] t x e = absurd cc
set_same (a ∷ xs) zero x e = let same : x ≡ a = cc in ap (λ y. y ∷ xs) same
set_same (a ∷ xs) (suc t) x e = ap (λ ys. a ∷ ys) (set_same xs t x e)

any_set : {A : Type 0} (f : A → Bool) (xs : List A) (t : ℕ) (a x : A) → slice_get xs t ≡ Some a → f x ≡ f a
    → list_any f (slice_set xs t x) ≡ list_any f xs
any_set f [] t a x e same = absurd cc
any_set f (b ∷ xs) zero a x e same = let here : a ≡ b = cc in ap (λ y. y || list_any f xs) (same ∙ ap f here)
any_set f (b ∷ xs) (suc t) a x e same = ap (λ y. f b || y) (any_set f xs t a x e same)

-- ---- one thread with other frames

-- a thread of the state, in phase Run
pub record Runs (r : State) (t : ℕ) (frames : List Frame) : Type 0 where
  pub thread : JavaThread
  pub at : slice_get r.threads t ≡ Some thread
  pub running : thread.thread.status ≡ Live Run
  pub has : thread.frames ≡ frames

running_is : (frames : List Frame) (status : Status) (fs : List Frame) → running_frames frames status ≡ Some fs
    → (status ≡ Live Run) × (frames ≡ fs)
running_is frames New fs e = absurd cc
running_is frames Done fs e = absurd cc
running_is frames (Live Run) fs e = (refl, cc)
running_is frames (Live phase) fs e = absurd cc

pub runs : (r : State) (t : ℕ) (frames : List Frame) → frames_at r t ≡ Some frames → Runs r t frames
runs r t frames e =
    let found = some_is (slice_get r.threads t) (λ (thread : JavaThread). running_frames thread.frames thread.thread.status) frames e in
    let facts = running_is found.0.frames found.0.thread.status frames found.2 in
    record { thread = found.0; at = found.1; running = facts.0; has = facts.1 }

-- the state with other frames, by the thread that has them
pub frames_is : (r : State) (t : ℕ) (thread : JavaThread) (frames : List Frame) → slice_get r.threads t ≡ Some thread
    → with_frames r t frames ≡ record r { threads = slice_set r.threads t (record thread { frames = frames }) }
frames_is r t thread frames e = rw e refl

-- the frames that a thread has
pub frames_same : (r : State) (t : ℕ) (frames : List Frame) → Runs r t frames → with_frames r t frames ≡ r
frames_same r t frames h =
    let thread : JavaThread = record h.thread { frames = frames } in
    let same : thread ≡ h.thread = ap (λ (fs : List Frame). record h.thread { frames = fs }) (sym h.has) in
    frames_is r t h.thread frames h.at
    ∙ ap (λ (x : JavaThread). record r { threads = slice_set r.threads t x }) same
    ∙ ap (λ (ts : List JavaThread). record r { threads = ts }) (set_same r.threads t h.thread h.at)

-- other frames twice
pub frames_twice : (r : State) (t : ℕ) (thread : JavaThread) (first second : List Frame) → slice_get r.threads t ≡ Some thread
    → with_frames (with_frames r t first) t second ≡ with_frames r t second
frames_twice r t thread first second e =
    let x : JavaThread = record thread { frames = first } in
    let y : JavaThread = record thread { frames = second } in
    let inner = frames_is r t thread first e in
    let outer = frames_is (record r { threads = slice_set r.threads t x }) t x second (get_set r.threads t thread x e) in
    ap (λ (q : State). with_frames q t second) inner ∙ outer
    ∙ ap (λ (ts : List JavaThread). record r { threads = ts }) (set-set r.threads t x y)
    ∙ sym (frames_is r t thread second e)

-- the thread with other frames is there
pub frames_there : (r : State) (t : ℕ) (thread : JavaThread) (frames : List Frame) → slice_get r.threads t ≡ Some thread
    → slice_get (with_frames r t frames).threads t ≡ Some (record thread { frames = frames })
frames_there r t thread frames e =
    ap (λ (q : State). slice_get q.threads t) (frames_is r t thread frames e)
    ∙ get_set r.threads t thread (record thread { frames = frames }) e

-- frames say nothing of the end of the program
pub frames_ending : (r : State) (t : ℕ) (thread : JavaThread) (frames : List Frame) → slice_get r.threads t ≡ Some thread
    → ending (with_frames r t frames) ≡ ending r
frames_ending r t thread frames e =
    let x : JavaThread = record thread { frames = frames } in
    ap ending (frames_is r t thread frames e) ∙ rw (any_set keeps_going r.threads t thread x e refl) refl
