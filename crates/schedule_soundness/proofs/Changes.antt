-- Steps and time change what a machine may change.
use Rattle.std.proofs.Common.{◌≡◌, ◌≢◌, ◌⊎◌, inl, inr, eqb, ℕ, Bool, true, false, [], Option, Some, None, refl, ap, sym, ◌∙◌, ◌&&◌, ◌||◌, arith}
use Rattle.std.specs.Prelude.{is_none, is_some, nat_le, nat_lt, slice_get}
use Rattle.std.specs.Option.{option_map_or}
use Rattle.std.proofs.lemmas.Bool.{and_parts, or_left, or_right}
use Rattle.std.proofs.lemmas.Bool.Decides.{eqb_tells}
use Rattle.vthread_state.specs.declared.phase.Phase.TheVariants.{Run, Entering}
use Rattle.vthread_state.specs.declared.thread.Status.TheVariants.{Live}
use Rattle.link_model.specs.World.{World}
use Rattle.schedule_model.specs.Look.{in_entry_list, is_in_line, is_live as is_live_spot}
use Rattle.schedule_model.specs.Changes.{Changes, ThreadChange, OwnChange, stays, is_made, starts, wakes}
use Rattle.schedule_model.proofs.ChangeLaws.{steps_by_threads, ticks_by_threads}
use Rattle.ref_model.specs.Setting.{Setting}
use Rattle.ref_model.specs.State.{JavaThread, State}
use Rattle.ref_model.specs.Ending.{ending, is_live}
use Rattle.ref_model.specs.Members.{is_hold}
use Rattle.ref_model.specs.Waiting.{is_reached, at_time}
use Rattle.ref_model.specs.Enabled.{is_done, has_ended, is_ready}
use Rattle.ref_model.specs.Step.{step}
use Rattle.ref_model.specs.Looks.{spot_of, is_pin, pins_of, look_of}
use Rattle.schedule_soundness.specs.Moves.{Moved, still, told, woken, started, made, IsStarted}
use Rattle.schedule_soundness.specs.PromiseLaws.{BeginsUnpinned}
use Rattle.schedule_soundness.proofs.ThreadLists.{same_some}
use Rattle.schedule_soundness.proofs.OtherMoves.{phase_live, time_is, time_moves}
use Rattle.schedule_soundness.proofs.Steps.{LiveStep, step_moves}
use Rattle.schedule_soundness.proofs.LookLaws.{Idle, Rises, spot_at, ready_at, pinned_at, no_pins, ready_stays, going_on}

-- ---- another thread

-- what is known of the two states
record Around (p : Setting) (r q : State) : Type 0 where
  pub plain : BeginsUnpinned p
  pub idle : Idle r
  pub rises : Rises r q
  pub goes : is_some (ending q) ≡ false

pins : (w : World) (x y : JavaThread) (before after : Option JavaThread) → before ≡ Some x → after ≡ Some y → y.frames ≡ x.frames
    → pinned_at w after ≡ pinned_at w before
pins w x y before after was now kept =
    ap (pinned_at w) now ∙ ap (λ fs. nat_lt 0 (pins_of w fs)) kept ∙ sym (ap (pinned_at w) was)

-- the first frame of a thread that was started doesn't pin it
first_plain : (p : Setting) (y : JavaThread) → BeginsUnpinned p → IsStarted p.world y → nat_lt 0 (pins_of p.world y.frames) ≡ false
first_plain p y plain is =
    let w = p.world in
    let free : is_hold w is.method ≡ false = plain.runs is.class is.run is.at is.run_is is.chosen is.method is.there in
    let pin : is_pin w is.frame ≡ false =
    ap (λ n. option_map_or (is_hold w) (slice_get w.methods n) false) is.frame_is ∙ ap (λ m. option_map_or (is_hold w) m false) is.there ∙ free in
    ap (λ fs. nat_lt 0 (pins_of w fs)) is.frames ∙ rw pin refl

ready_after : (q : State) (after : Option JavaThread) (y : JavaThread) → is_some (ending q) ≡ false → after ≡ Some y
    → (is_none (ending q) && ready_at q after) ≡ is_ready q y y.thread.status
ready_after q after y goes now = going_on (ending q) (ready_at q after) goes ∙ ap (ready_at q) now

begun_ready : (q : State) (after : Option JavaThread) (y : JavaThread) → is_some (ending q) ≡ false → after ≡ Some y
    → (y.thread.status ≡ Live Run) ⊎ ((o : ℕ) × (y.thread.status ≡ Live (Entering o)))
    → ((is_none (ending q) && ready_at q after) || is_in_line (spot_at after)) ≡ true
begun_ready q after y goes now (inl run) =
    or_left (is_none (ending q) && ready_at q after) (is_in_line (spot_at after)) (ready_after q after y goes now ∙ ap (is_ready q y) run)
begun_ready q after y goes now (inr line) =
    or_right (is_none (ending q) && ready_at q after) (is_in_line (spot_at after))
    (ap (λ o. is_in_line (spot_at o)) now ∙ ap (λ status. is_in_line (spot_of status)) line.1)

told_change : (p : Setting) (r q : State) (u : ℕ) (x y : JavaThread) → Around p r q → slice_get r.threads u ≡ Some x
    → slice_get q.threads u ≡ Some y → y.thread.status ≡ x.thread.status → y.frames ≡ x.frames → (x.permit ≡ true → y.permit ≡ true)
    → (x.interrupted ≡ true → y.interrupted ≡ true) → ThreadChange (look_of p.world r) (look_of p.world q) u
told_change p r q u x y a was now status kept permit interrupted =
    stays (ap spot_at now ∙ ap spot_of status ∙ sym (ap spot_at was))
    (λ free on. let ready : is_ready r x x.thread.status ≡ true =
    sym (ap (ready_at r) was) ∙ (and_parts (is_none (ending r)) (ready_at r (slice_get r.threads u)) on).1 in
    ready_after q (slice_get q.threads u) y a.goes now ∙ ap (is_ready q y) status
    ∙ ready_stays r q x y x.thread.status a.rises permit interrupted (sym (ap spot_at was) ∙ free) ready)
    (pins p.world x y (slice_get r.threads u) (slice_get q.threads u) was now kept)

still_change : (p : Setting) (r q : State) (u : ℕ) → Around p r q → slice_get q.threads u ≡ slice_get r.threads u → (o : Option JavaThread)
    → slice_get r.threads u ≡ o → ThreadChange (look_of p.world r) (look_of p.world q) u
still_change p r q u a same None was =
    stays (ap spot_at same)
    (λ free on. let ready = (and_parts (is_none (ending r)) (ready_at r (slice_get r.threads u)) on).1 in
    let z : false ≡ true = sym (ap (ready_at r) was) ∙ ready in absurd cc) (ap (pinned_at p.world) same)
still_change p r q u a same (Some x) was = told_change p r q u x x a was (same ∙ was) refl refl (λ e. e) (λ e. e)

change_of : (p : Setting) (r q : State) (u : ℕ) → Around p r q → Moved p.world (slice_get r.threads u) (slice_get q.threads u)
    → ThreadChange (look_of p.world r) (look_of p.world q) u
change_of p r q u a (still same) = still_change p r q u a same (slice_get r.threads u) refl
change_of p r q u a (told x y was now status kept permit interrupted) = told_change p r q u x y a was now status kept permit interrupted
change_of p r q u a (woken x y o count deadline wake was now waits enters kept) =
    wakes o o (ap spot_at was ∙ ap spot_of waits) (ap spot_at now ∙ ap spot_of enters)
    (pins p.world x y (slice_get r.threads u) (slice_get q.threads u) was now kept)
change_of p r q u a (started x y was now new is) =
    starts (ap spot_at was ∙ ap spot_of new) (begun_ready q (slice_get q.threads u) y a.goes now is.phase)
    (ap (pinned_at p.world) now ∙ first_plain p y a.plain is
    ∙ sym (ap (pinned_at p.world) was ∙ no_pins p.world x.frames (a.idle u x was (ap is_live new))))
change_of p r q u a (made y was now new empty) =
    is_made (ap spot_at was) (ap spot_at now ∙ ap spot_of new)
    (ap (pinned_at p.world) now ∙ no_pins p.world y.frames empty ∙ sym (ap (pinned_at p.world) was))

-- ---- what has ended stays so

abbrev pub ended_by : Option JavaThread → Bool
ended_by o = option_map_or (λ (x : JavaThread). is_done x.thread.status) o false

still_ended : (w : World) (before after : Option JavaThread) → Moved w before after
    → ended_by before ≡ true → ended_by after ≡ true
still_ended w before after (still same) e = ap ended_by same ∙ e
still_ended w before after (told x y was now status kept permit interrupted) e =
    ap ended_by now ∙ ap is_done status
    ∙ sym (ap ended_by was) ∙ e
still_ended w before after (woken x y o count deadline wake was now waits enters kept) e =
    let z : false ≡ true = sym (ap ended_by was ∙ ap is_done waits) ∙ e in absurd cc
still_ended w before after (started x y was now new is) e =
    let z : false ≡ true = sym (ap ended_by was ∙ ap is_done new) ∙ e in absurd cc
still_ended w before after (made y was now new empty) e =
    let z : false ≡ true = sym (ap ended_by was) ∙ e in absurd cc

-- a thread that steps hasn't ended
not_over : (w : World) (r q : State) (t : ℕ) → LiveStep w t r q → has_ended r t ≡ true → ⊥
not_over w r q t l e =
    let z : false ≡ true =
    sym (ap ended_by l.there ∙ ap is_done l.status) ∙ e in cc

step_rises : (w : World) (r q : State) (t : ℕ) → LiveStep w t r q → Rises r q
step_rises w r q t l =
    record {
      reached = λ deadline e. ap (λ now. is_reached now deadline) l.stepped.moves.now ∙ e;
      ended = λ v e. by v e (eqb_tells v t);
    }
  where
    by : (v : ℕ) → has_ended r v ≡ true → ((eqb v t ≡ true) × (v ≡ t)) ⊎ ((eqb v t ≡ false) × (v ≢ t)) → has_ended q v ≡ true
    by v e (inl me) = absurd (not_over w r q t l (ap (has_ended r) (sym me.1) ∙ e))
    by v e (inr other) = still_ended w (slice_get r.threads v) (slice_get q.threads v) (l.stepped.moves.others v other.1) e

-- ---- one step

own_of : (w : World) (r q : State) (t : ℕ) → LiveStep w t r q → OwnChange (look_of w r) (look_of w q) t
own_of w r q t l =
    record {
      live = ap (λ o. is_live_spot (spot_at o)) l.there ∙ ap (λ status. is_live_spot (spot_of status)) l.status ∙ phase_live l.phase;
      taken = λ o e. l.stepped.taken o (sym (ap spot_at l.there ∙ ap spot_of l.status) ∙ e);
      came = λ o e. by o (slice_get q.threads t) refl e;
    }
  where
    by : (o : ℕ) (m : Option JavaThread) → slice_get q.threads t ≡ m → spot_at m ≡ in_entry_list o → is_some (r.owners o) ≡ true
    by o None is e = absurd cc
    by o (Some y) is e = (l.stepped.moves.own y is).came o e

pub step_changes : (p : Setting) (r q : State) (t : ℕ) (pick : Option ℕ) → BeginsUnpinned p → Idle r → step p r t pick ≡ Some q
    → (look_of p.world q).ended ≡ false → Changes (look_of p.world r) (look_of p.world q) (Some t)
step_changes p r q t pick plain idle e goes =
    let w = p.world in
    let l = step_moves p r q t pick e in
    let a : Around p r q = record { plain = plain; idle = idle; rises = step_rises w r q t l; goes = goes } in
    steps_by_threads (look_of w r) (look_of w q) t (own_of w r q t l) (λ u ne. change_of p r q u a (l.stepped.moves.others u ne))

-- ---- time

later : (a b : ℕ) (deadline : Option ℕ) → nat_lt a b ≡ true → is_reached a deadline ≡ true → is_reached b deadline ≡ true
later a b None low e = e
later a b (Some deadline) low e = by_number
  where
    by_number : nat_le deadline b ≡ true
    by_number = grind (arith, low, e)

pub tick_changes : (p : Setting) (r q : State) (now : ℕ) → BeginsUnpinned p → Idle r → at_time r now ≡ Some q
    → (look_of p.world q).ended ≡ false → Changes (look_of p.world r) (look_of p.world q) None
tick_changes p r q now plain idle e goes =
    let w = p.world in
    let is = time_is r q now e in
    let now_is : q.now ≡ now = ap (λ (s : State). s.now) (sym is.1) in
    let rises : Rises r q = record {
      reached = λ deadline old. ap (λ n. is_reached n deadline) now_is ∙ later r.now now deadline is.0 old;
      ended = λ v old. still_ended w (slice_get r.threads v) (slice_get q.threads v) (time_moves w r q v now e) old;
    } in
    let a : Around p r q = record { plain = plain; idle = idle; rises = rises; goes = goes } in
    ticks_by_threads (look_of w r) (look_of w q) (λ u. change_of p r q u a (time_moves w r q u now e))

-- ---- who isn't live has no frames

moved_idle : (w : World) (before after : Option JavaThread) → Moved w before after
    → ((x : JavaThread) → before ≡ Some x → is_live x.thread.status ≡ false → x.frames ≡ []) → (y : JavaThread) → after ≡ Some y
    → is_live y.thread.status ≡ false → y.frames ≡ []
moved_idle w before after (still same) idle y at off = idle y (sym same ∙ at) off
moved_idle w before after (told x z was now status kept permit interrupted) idle y at off =
    let is = same_some after z y now at in
    ap (λ (v : JavaThread). v.frames) (sym is) ∙ kept
    ∙ idle x was (ap is_live (sym status) ∙ ap (λ (v : JavaThread). is_live v.thread.status) is ∙ off)
moved_idle w before after (woken x z o count deadline wake was now waits enters kept) idle y at off =
    let is = same_some after z y now at in
    let lives : true ≡ false = sym (ap is_live enters) ∙ ap (λ (v : JavaThread). is_live v.thread.status) is ∙ off in absurd cc
moved_idle w before after (started x z was now new begun) idle y at off =
    let is = same_some after z y now at in
    let lives : true ≡ false = sym (by z begun.phase) ∙ ap (λ (v : JavaThread). is_live v.thread.status) is ∙ off in absurd cc
  where
    by : (z : JavaThread) → (z.thread.status ≡ Live Run) ⊎ ((o : ℕ) × (z.thread.status ≡ Live (Entering o))) → is_live z.thread.status ≡ true
    by z (inl run) = ap is_live run
    by z (inr line) = ap is_live line.1
moved_idle w before after (made z was now new empty) idle y at off = ap (λ (v : JavaThread). v.frames) (sym (same_some after z y now at)) ∙ empty

pub step_idle : (p : Setting) (r q : State) (t : ℕ) (pick : Option ℕ) → Idle r → step p r t pick ≡ Some q → Idle q
step_idle p r q t pick idle e u y at off = by (eqb_tells u t)
  where
    l : LiveStep p.world t r q
    l = step_moves p r q t pick e

    by : ((eqb u t ≡ true) × (u ≡ t)) ⊎ ((eqb u t ≡ false) × (u ≢ t)) → y.frames ≡ []
    by (inl me) = (l.stepped.moves.own y (ap (slice_get q.threads) (sym me.1) ∙ at)).dropped off
    by (inr other) =
        moved_idle p.world (slice_get r.threads u) (slice_get q.threads u) (l.stepped.moves.others u other.1) (λ x was. idle u x was) y at off

pub tick_idle : (w : World) (r q : State) (now : ℕ) → Idle r → at_time r now ≡ Some q → Idle q
tick_idle w r q now idle e u y at off =
    moved_idle w (slice_get r.threads u) (slice_get q.threads u) (time_moves w r q u now e) (λ x was. idle u x was) y at off
