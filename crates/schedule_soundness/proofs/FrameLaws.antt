-- What others do leaves the frames of a thread that runs.
use Rattle.std.proofs.Common.{◌≡◌, ℕ, zero, suc, Bool, true, false, List, Option, Some, None, refl, ap, sym, ◌∙◌}
use Rattle.std.specs.Prelude.{map, slice_get, if◌then◌else◌}
use Rattle.items.specs.Options.{◌>>=◌}
use Rattle.items.proofs.Binds.{some_is}
use Rattle.vthread_state.specs.declared.phase.Phase.TheVariants.{Waiting, Reenter}
use Rattle.vthread_state.specs.declared.phase.Wake.TheVariants.{TimedOut}
use Rattle.vthread_state.specs.declared.thread.Status.{Status}
use Rattle.vthread_state.specs.declared.thread.Status.TheVariants.{Live}
use Rattle.link_model.specs.World.{World}
use Rattle.state_model.specs.Frames.{Frame}
use Rattle.ref_model.specs.Setting.{Setting}
use Rattle.ref_model.specs.State.{JavaThread, State, running_frames, frames_at}
use Rattle.ref_model.specs.Waiting.{at_time, is_reached, status_at_time, thread_at_time}
use Rattle.ref_model.specs.Step.{step}
use Rattle.ref_model.specs.Run.{steps}
use Rattle.schedule_soundness.specs.Moves.{Moved, still, told, woken, started, made}
use Rattle.schedule_soundness.specs.FrameLaws.{Leaves, StepsLeaveOthers, EntriesLeaveOthers, TimeLeavesFrames}
use Rattle.schedule_soundness.proofs.ThreadLists.{map_none, map_there}
use Rattle.schedule_soundness.proofs.OtherMoves.{time_is}
use Rattle.schedule_soundness.proofs.Steps.{step_moves}

-- the frames by the thread that has them
abbrev frames_by : (o : Option JavaThread) → Option (List Frame)
frames_by o = o >>= λ thread. running_frames thread.frames thread.thread.status

moved_frames : (w : World) (r : State) (u : ℕ) (after : Option JavaThread) (frames : List Frame) → Moved w (slice_get r.threads u) after
    → frames_at r u ≡ Some frames → frames_by after ≡ Some frames
moved_frames w r u after frames (still same) e = ap frames_by same ∙ e
moved_frames w r u after frames (told x y was now status kept permit interrupted) e =
    ap frames_by now ∙ ap (running_frames y.frames) status ∙ ap (λ fs. running_frames fs x.thread.status) kept ∙ sym (ap frames_by was) ∙ e
moved_frames w r u after frames (woken x y o count deadline wake was now waits enters kept) e =
    let z : None ≡ Some frames = sym (ap frames_by was ∙ ap (running_frames x.frames) waits) ∙ e in absurd cc
moved_frames w r u after frames (started x y was now new is) e =
    let z : None ≡ Some frames = sym (ap frames_by was ∙ ap (running_frames x.frames) new) ∙ e in absurd cc
moved_frames w r u after frames (made y was now new empty) e = let z : None ≡ Some frames = sym (ap frames_by was) ∙ e in absurd cc

pub steps_leave_others : StepsLeaveOthers
steps_leave_others p r q t pick e u frames ne at =
    moved_frames p.world r u (slice_get q.threads u) frames ((step_moves p r q t pick e).stepped.moves.others u ne) at

leaves_all : (p : Setting) (r q : State) (t n : ℕ) → steps p n r t ≡ Some q → Leaves t r q
leaves_all p r q t zero e = let same : r ≡ q = cc in λ u frames ne at. ap (λ (s : State). frames_at s u) (sym same) ∙ at
leaves_all p r q t (suc n) e =
    let s = some_is (steps p n r t) (λ s. step p s t None) q e in
    λ u frames ne at. steps_leave_others p s.0 q t None s.2 u frames ne (leaves_all p r s.0 t n s.1 u frames ne at)

pub entries_leave_others : EntriesLeaveOthers
entries_leave_others p r q t zero pick e u frames ne at = absurd cc
entries_leave_others p r q t (suc n) pick e u frames ne at =
    let s = some_is (steps p n r t) (λ s. step p s t pick) q e in
    steps_leave_others p s.0 q t pick s.2 u frames ne (leaves_all p r s.0 t n s.1 u frames ne at)

-- whether a thread runs is told by its status before a tick as after it
same_running : (now : ℕ) (frames : List Frame) (status : Status) → running_frames frames (status_at_time now status) ≡ running_frames frames status
same_running now frames (Live (Waiting o count deadline)) = by (is_reached now deadline)
  where
    by : (b : Bool) → running_frames frames (Live (if b then Reenter o count TimedOut else Waiting o count deadline)) ≡ None
    by true = refl
    by false = refl
same_running now frames status = refl

pub frames_in_time : (r q : State) (now u : ℕ) → at_time r now ≡ Some q → frames_at q u ≡ frames_at r u
frames_in_time r q now u e = ap (λ (s : State). frames_at s u) (sym (time_is r q now e).1) ∙ by (slice_get r.threads u) refl
  where
    by : (o : Option JavaThread) → slice_get r.threads u ≡ o → frames_by (slice_get (map (thread_at_time now) r.threads) u) ≡ frames_at r u
    by None is = ap frames_by (map_none (thread_at_time now) r.threads u is) ∙ sym (ap frames_by is)
    by (Some x) is =
        ap frames_by (map_there (thread_at_time now) r.threads u x is) ∙ same_running now x.frames x.thread.status ∙ sym (ap frames_by is)

pub time_leaves : TimeLeavesFrames
time_leaves r q now u frames e at = frames_in_time r q now u e ∙ at
