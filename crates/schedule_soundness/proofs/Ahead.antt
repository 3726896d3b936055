-- Steps that a carrier made ahead are those of an entry.
use Rattle.std.proofs.Common.{◌≡◌, ℕ, zero, suc, Bool, true, false, List, Option, Some, None, refl, ap, sym, ◌∙◌, arith, cond, not}
use Rattle.std.specs.Prelude.{is_none, slice_get}
use Rattle.std.specs.Option.{option_map_or}
use Rattle.std.proofs.lemmas.Bool.{and_from, and_parts}
use Rattle.items.specs.Options.{◌>>=◌}
use Rattle.items.proofs.Binds.{bind_is}
use Rattle.vthread_state.specs.declared.phase.Phase.TheVariants.{Run}
use Rattle.vthread_state.specs.declared.thread.Status.TheVariants.{Live}
use Rattle.state_model.specs.Frames.{Frame}
use Rattle.schedule_model.specs.Entries.{after_step, has_mounted, is_pick, may_step}
use Rattle.schedule_model.specs.Run.{Scheduled, with_schedule}
use Rattle.ref_model.specs.Setting.{Setting}
use Rattle.ref_model.specs.State.{JavaThread, State, with_frames, frames_at, running_frames}
use Rattle.ref_model.specs.Ending.{ending}
use Rattle.ref_model.specs.Step.{enabled, step}
use Rattle.ref_model.specs.Run.{steps, after_steps}
use Rattle.ref_model.specs.Looks.{look_of, grouped_steps, yields_after, yields_next}
use Rattle.ref_model.proofs.StateLaws.{frames_is, set_same}
use Rattle.ref_model.proofs.StepLaws.{local_steps}
use Rattle.schedule_soundness.specs.EntryLaws.{IsAhead, StepsAreEntries, YieldsAreNext}

none_is : {A : Type 0} (o : Option A) → is_none o ≡ true → o ≡ None
none_is None e = refl
none_is (Some x) e = absurd cc

pub going : (r : State) (t : ℕ) → enabled r t ≡ true → ending r ≡ None
going r t on = none_is (ending r) (and_parts (is_none (ending r)) _ on).0

frames_running : (r : State) (t : ℕ) (thread : JavaThread) → slice_get r.threads t ≡ Some thread → thread.thread.status ≡ Live Run
    → frames_at r t ≡ Some thread.frames
frames_running r t thread at running =
    bind_is (slice_get r.threads t) (λ (x : JavaThread). running_frames x.frames x.thread.status) thread (Some thread.frames) at
    (ap (running_frames thread.frames) running)

-- the frames that a thread has
frames_own : (r : State) (t : ℕ) (thread : JavaThread) → slice_get r.threads t ≡ Some thread → with_frames r t thread.frames ≡ r
frames_own r t thread at =
    frames_is r t thread thread.frames at ∙ ap (λ (ts : List JavaThread). record r { threads = ts }) (set_same r.threads t thread at)

ahead_steps : (p : Setting) (r : State) (t n : ℕ) (frames : List Frame) → IsAhead p.world r t n frames → ending r ≡ None
    → steps p n r t ≡ Some (with_frames r t frames)
ahead_steps p r t zero frames h goes =
    let same : h.thread.frames ≡ frames = let e = h.ahead in cc in
    ap Some (sym (frames_own r t h.thread h.at) ∙ ap (λ (fs : List Frame). with_frames r t fs) same)
ahead_steps p r t (suc n) frames h goes =
    local_steps p r t (suc n) h.thread.frames frames (frames_running r t h.thread h.at (h.running (omega arith))) goes h.ahead

pub yields_are_next : YieldsAreNext
yields_are_next p r t n frames on h =
    ap (λ o. option_map_or (λ q. yields_next p.world q t) o false) (ahead_steps p r t n frames h (going r t on))

pub steps_are_entries : StepsAreEntries
steps_are_entries p first v q c t n frames pick may picks h grouped one =
    let l = look_of p.world in
    let s = with_frames v.state t frames in
    let leads : State → Bool → Scheduled State = λ q yields. with_schedule q (after_step (l v.state) (l q) v.schedule c t yields) in
    let yields = yields_after p v.state t (suc n) in
    let all : after_steps p v.state t (suc n) pick ≡ Some q =
    bind_is (steps p n v.state t) (λ q. step p q t pick) s (Some q) (ahead_steps p v.state t n frames h (going v.state t may.may)) one in
    let made : grouped_steps p v.state t (suc n) pick ≡ Some q = ap (λ b. cond b (after_steps p v.state t (suc n) pick) None) grouped ∙ all in
    let given : may_step (l v.state) v.schedule c t pick ≡ true =
    and_from (has_mounted v.schedule c t) _ may.mounted (and_from (not (v.schedule.owes t)) _ (ap not may.owes)
    (and_from (enabled v.state t) (is_pick (l v.state) v.schedule pick) may.may picks)) in
    ap (λ b. cond b (grouped_steps p v.state t (suc n) pick >>= λ q. Some (leads q yields)) None) given
    ∙ bind_is (grouped_steps p v.state t (suc n) pick) (λ q. Some (leads q yields)) q (Some (leads q yields)) made refl
    ∙ ap (λ b. Some (leads q b)) (yields_are_next p v.state t n frames may.may h)
