-- The local instructions in a hand, as steps of the reference machine.
use Rattle.std.proofs.Common.{◌≡◌, ℕ, zero, suc, List, slice_get, Option, Some, None, ap, sym, ◌∙◌, arith}
use Rattle.items.proofs.Binds.{bind_is}
use Rattle.vthread_state.specs.declared.phase.Phase.TheVariants.{Run}
use Rattle.vthread_state.specs.declared.thread.Status.TheVariants.{Live}
use Rattle.state_model.specs.Frames.{Frame}
use Rattle.schedule_model.specs.Run.{Scheduled}
use Rattle.ref_model.specs.Setting.{Setting}
use Rattle.ref_model.specs.State.{JavaThread, State, frames_at, running_frames, with_frames}
use Rattle.ref_model.specs.Ending.{ending}
use Rattle.ref_model.specs.Run.{steps}
use Rattle.ref_model.proofs.StateLaws.{frames_is, get_set, runs, set_same}
use Rattle.ref_model.proofs.StepLaws.{local_steps}
use Rattle.machine.specs.Hands.{HasHand}

pub same_thread : (x y : JavaThread) → ◌≡◌ {A = Option JavaThread} (Some x) (Some y) → x ≡ y
same_thread x y e = cc

-- with other frames it runs where it did
pub runs_with : (r : State) (t : ℕ) (x : JavaThread) (frames mine : List Frame) → slice_get r.threads t ≡ Some x → frames_at (with_frames r t frames) t ≡ Some mine
    → x.thread.status ≡ Live Run
runs_with r t x frames mine at e =
    let h = runs (with_frames r t frames) t mine e in
    let there : slice_get (with_frames r t frames).threads t ≡ Some (record x { frames = frames }) =
    ap (λ (s : State). slice_get s.threads t) (frames_is r t x frames at) ∙ get_set r.threads t x (record x { frames = frames }) at in
    ap (λ (y : JavaThread). y.thread.status) (same_thread (record x { frames = frames }) h.thread (sym there ∙ h.at)) ∙ h.running

frames_own : (r : State) (t : ℕ) (x : JavaThread) → slice_get r.threads t ≡ Some x → with_frames r t x.frames ≡ r
frames_own r t x at = frames_is r t x x.frames at ∙ ap (λ (ts : List JavaThread). record r { threads = ts }) (set_same r.threads t x at)

-- the state after local instructions that were made ahead
pub ahead_steps : (p : Setting) (v : Scheduled State) (c t n : ℕ) (frames : List Frame) → HasHand p v c t n frames → ending v.state ≡ None
    → steps p n v.state t ≡ Some (with_frames v.state t frames)
ahead_steps p v c t zero frames h goes =
    let same : h.thread.frames ≡ frames = let e = h.ahead in cc in
    ap Some (sym (frames_own v.state t h.thread h.at) ∙ ap (λ (fs : List Frame). with_frames v.state t fs) same)
ahead_steps p v c t (suc n) frames h goes =
    let running : frames_at v.state t ≡ Some h.thread.frames =
    bind_is (slice_get v.state.threads t) (λ (x : JavaThread). running_frames x.frames x.thread.status) h.thread (Some h.thread.frames) h.at
    (ap (running_frames h.thread.frames) (h.running (omega arith))) in
    local_steps p v.state t (suc n) h.thread.frames frames running goes h.ahead
