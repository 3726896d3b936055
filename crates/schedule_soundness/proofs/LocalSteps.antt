-- The local instructions of an entry: others can't tell them.
use Rattle.std.proofs.Common.{◌≡◌, ◌≢◌, ◌⊎◌, inl, inr, eqb, ℕ, zero, suc, true, false, List, Option, Some, None, refl, ap, sym, subst, ◌∙◌, ◌&&◌, ◌||◌}
use Rattle.std.specs.Prelude.{is_none, slice_get, slice_set}
use Rattle.std.specs.Option.{option_map_or}
use Rattle.std.proofs.lemmas.Bool.Decides.{eqb_tells}
use Rattle.items.proofs.Binds.{some_is}
use Rattle.vthread_state.specs.declared.phase.Phase.TheVariants.{Run, Throwing, Entering, Waiting, Reenter, Parked, Asleep, Joining}
use Rattle.vthread_state.specs.declared.thread.Status.{Status}
use Rattle.vthread_state.specs.declared.thread.Status.TheVariants.{New, Live, Done}
use Rattle.link_model.specs.World.{World}
use Rattle.state_model.specs.Frames.{Frame}
use Rattle.schedule_model.specs.Changes.{Changes, IsLocal}
use Rattle.schedule_model.proofs.ChangeLaws.{steps_by_the_last}
use Rattle.ref_model.specs.Setting.{Setting}
use Rattle.ref_model.specs.State.{JavaThread, State, with_frames, frames_at}
use Rattle.ref_model.specs.Ending.{ending}
use Rattle.ref_model.specs.Waiting.{is_reached}
use Rattle.ref_model.specs.Enabled.{is_done, has_ended, is_ready}
use Rattle.ref_model.specs.Step.{step}
use Rattle.ref_model.specs.Run.{steps, after_steps}
use Rattle.ref_model.specs.Entries.{is_grouped}
use Rattle.ref_model.specs.Looks.{look_of, grouped_steps}
use Rattle.ref_model.proofs.StateLaws.{get_set, runs, frames_is, frames_ending}
use Rattle.ref_model.proofs.StepLaws.{entry_is_local}
use Rattle.schedule_soundness.specs.PromiseLaws.{BeginsUnpinned}
use Rattle.schedule_soundness.proofs.ThreadLists.{set_other}
use Rattle.schedule_soundness.proofs.LookLaws.{Idle, spot_at, ready_at, pinned_at}
use Rattle.schedule_soundness.proofs.Changes.{step_changes, step_idle}
use Rattle.schedule_soundness.proofs.Reached.{grouped_is, inner_state, steps_hold}

-- ---- a thread with other frames

-- a look at one thread that doesn't see frames
unseen : {A : Type 0} (f : Option JavaThread → A) (xs : List JavaThread) (t u : ℕ) (x : JavaThread) (frames : List Frame) → slice_get xs t ≡ Some x
    → f (Some (record x { frames = frames })) ≡ f (Some x) → f (slice_get (slice_set xs t (record x { frames = frames })) u) ≡ f (slice_get xs u)
unseen f xs t u x frames at same = by (eqb_tells u t)
  where
    y : JavaThread
    y = record x { frames = frames }

    by : ((eqb u t ≡ true) × (u ≡ t)) ⊎ ((eqb u t ≡ false) × (u ≢ t)) → f (slice_get (slice_set xs t y) u) ≡ f (slice_get xs u)
    by (inl me) =
        ap (λ n. f (slice_get (slice_set xs t y) n)) me.1 ∙ ap f (get_set xs t x y at) ∙ same ∙ sym (ap f at)
        ∙ ap (λ n. f (slice_get xs n)) (sym me.1)
    by (inr other) = ap f (set_other xs t u y other.1)

-- whether a thread may go on depends on the ends of others
ready_alike : (r s : State) (x : JavaThread) (status : Status) → s.owners ≡ r.owners → s.now ≡ r.now → ((u : ℕ) → has_ended s u ≡ has_ended r u)
    → is_ready s x status ≡ is_ready r x status
ready_alike r s x New owners now ends = refl
ready_alike r s x Done owners now ends = refl
ready_alike r s x (Live Run) owners now ends = refl
ready_alike r s x (Live (Throwing o)) owners now ends = refl
ready_alike r s x (Live (Entering o)) owners now ends = ap (λ f. is_none (f o)) owners
ready_alike r s x (Live (Waiting o count deadline)) owners now ends = refl
ready_alike r s x (Live (Reenter o count wake)) owners now ends = ap (λ f. is_none (f o)) owners
ready_alike r s x (Live (Parked deadline)) owners now ends = ap (λ n. x.permit || (x.interrupted || is_reached n deadline)) now
ready_alike r s x (Live (Asleep deadline)) owners now ends = ap (λ n. x.interrupted || is_reached n (Some deadline)) now
ready_alike r s x (Live (Joining u deadline)) owners now ends =
    ap (λ b. b || (x.interrupted || is_reached s.now deadline)) (ends u)
    ∙ ap (λ n. has_ended r u || (x.interrupted || is_reached n deadline)) now

ready_at_alike : (r s : State) (o : Option JavaThread) → s.owners ≡ r.owners → s.now ≡ r.now → ((u : ℕ) → has_ended s u ≡ has_ended r u)
    → ready_at s o ≡ ready_at r o
ready_at_alike r s None owners now ends = refl
ready_at_alike r s (Some x) owners now ends = ready_alike r s x x.thread.status owners now ends

set_local : (w : World) (r : State) (t : ℕ) (x : JavaThread) (frames : List Frame) → slice_get r.threads t ≡ Some x
    → ending (record r { threads = slice_set r.threads t (record x { frames = frames }) }) ≡ ending r
    → IsLocal (look_of w r) (look_of w (record r { threads = slice_set r.threads t (record x { frames = frames }) })) t
set_local w r t x frames at same =
    let y : JavaThread = record x { frames = frames } in
    let s : State = record r { threads = slice_set r.threads t y } in
    let ends : (u : ℕ) → has_ended s u ≡ has_ended r u =
    λ u. unseen (λ o. option_map_or (λ (z : JavaThread). is_done z.thread.status) o false) r.threads t u x frames at refl in
    record {
      spot = λ u. unseen spot_at r.threads t u x frames at refl;
      enabled = λ u. ap (λ e. is_none e && ready_at s (slice_get s.threads u)) same
          ∙ ap (λ b. is_none (ending r) && b)
          (ready_at_alike r s (slice_get s.threads u) refl refl ends ∙ unseen (ready_at r) r.threads t u x frames at refl);
      owned = λ o. refl;
      pinned = λ u ne. ap (pinned_at w) (set_other r.threads t u y ne);
    }

pub frames_local : (w : World) (r : State) (t : ℕ) (before after : List Frame) → frames_at r t ≡ Some before
    → IsLocal (look_of w r) (look_of w (with_frames r t after)) t
frames_local w r t before after at =
    let h = runs r t before at in
    let is = frames_is r t h.thread after h.at in
    subst (λ s. IsLocal (look_of w r) (look_of w s) t) (sym is)
    (set_local w r t h.thread after h.at (ap ending (sym is) ∙ frames_ending r t h.thread after h.at))

-- ---- an entry

pub entry_changes : (p : Setting) (r q : State) (t n : ℕ) (pick : Option ℕ) → BeginsUnpinned p → Idle r → grouped_steps p r t n pick ≡ Some q
    → (look_of p.world q).ended ≡ false → Changes (look_of p.world r) (look_of p.world q) (Some t)
entry_changes p r q t n pick plain idle e goes =
    let g = grouped_is (is_grouped p.world r t n) (after_steps p r t n pick) q e in by n g.0 g.1
  where
    by : (n : ℕ) → is_grouped p.world r t n ≡ true → after_steps p r t n pick ≡ Some q → Changes (look_of p.world r) (look_of p.world q) (Some t)
    by zero grouped e = absurd cc
    by (suc zero) grouped e = step_changes p r q t pick plain idle e goes
    by (suc (suc n)) grouped e =
        let w = p.world in
        let l = entry_is_local p r q t n pick grouped e in
        let s = with_frames r t l.after in
        let last = some_is (steps p (suc n) r t) (λ s. step p s t pick) q e in
        let is : last.0 ≡ s = inner_state last.0 s (sym last.1 ∙ l.state) in
        let e' : step p s t pick ≡ Some q = ap (λ x. step p x t pick) (sym is) ∙ last.2 in
        let idle' : Idle s = steps_hold p Idle (λ r q t pick old e. step_idle p r q t pick old e) (suc n) r s t idle l.state in
        steps_by_the_last (look_of w r) (look_of w s) (look_of w q) t (frames_local w r t l.before l.after l.first)
        (step_changes p s q t pick plain idle' e' goes)
