-- What main alone does.
use Rattle.std.proofs.Common.{◌≡◌, ◌≢◌, ◌⊎◌, inl, inr, eqb, ℕ, zero, suc, Bool, true, false, List, [], ◌∷◌, Option, Some, None, refl, ap, sym, subst, ◌∙◌}
use Rattle.std.specs.Prelude.{slice_get}
use Rattle.std.proofs.lemmas.Bool.{or_left}
use Rattle.std.proofs.lemmas.Bool.Decides.{eqb_tells}
use Rattle.items.specs.First.{Each}
use Rattle.items.proofs.Binds.{some_is}
use Rattle.history.specs.declared.entry.Entry.{Entry}
use Rattle.history.specs.declared.entry.What.{What}
use Rattle.history.specs.declared.entry.What.TheVariants.{Mount, Unmount, Step, Clock}
use Rattle.history.specs.Java.{java}
use Rattle.vthread_state.specs.declared.phase.Phase.{Phase}
use Rattle.vthread_state.specs.declared.phase.Phase.TheVariants.{Run, Entering, Reenter}
use Rattle.vthread_state.specs.declared.thread.Status.TheVariants.{Live}
use Rattle.link_model.specs.World.{World}
use Rattle.schedule_model.specs.Look.{is_live as is_live_spot, is_done as is_done_spot}
use Rattle.schedule_model.specs.Run.{replay, state_after}
use Rattle.schedule_model.proofs.RunLaws.{runs_without_carriers}
use Rattle.ref_model.specs.Setting.{Setting}
use Rattle.ref_model.specs.State.{JavaThread, State}
use Rattle.ref_model.specs.Step.{step}
use Rattle.ref_model.specs.Waiting.{at_time}
use Rattle.ref_model.specs.Run.{steps, after_steps}
use Rattle.ref_model.specs.Entries.{is_grouped}
use Rattle.ref_model.specs.Looks.{spot_in, spot_of, look_of, machine_from}
use Rattle.schedule_soundness.specs.Started.{was_started, OnlyMain}
use Rattle.schedule_soundness.specs.Moves.{Moved, still, told, woken, started, made}
use Rattle.schedule_soundness.specs.AloneLaws.{IsOfMain, StepsAreOfMain}
use Rattle.schedule_soundness.proofs.OtherMoves.{phase_live, time_moves}
use Rattle.schedule_soundness.proofs.Steps.{LiveStep, step_moves}
use Rattle.schedule_soundness.proofs.LookLaws.{spot_at}
use Rattle.schedule_soundness.proofs.Reached.{grouped_is, inner_state}

-- ---- who was started

no_both : (b : Bool) → b ≡ true → b ≡ false → ⊥
no_both b i j = absurd cc

pub live_started : (o : Option JavaThread) (x : JavaThread) (phase : Phase) → o ≡ Some x → x.thread.status ≡ Live phase
    → was_started (spot_at o) ≡ true
live_started o x phase at is =
    ap (λ m. was_started (spot_at m)) at ∙ ap (λ status. was_started (spot_of status)) is
    ∙ or_left (is_live_spot (spot_in phase)) (is_done_spot (spot_in phase)) (phase_live phase)

-- while main alone was started, who was started is main
pub started_is_main : (w : World) (r : State) (t : ℕ) → OnlyMain (look_of w r) → was_started (spot_at (slice_get r.threads t)) ≡ true → t ≡ 0
started_is_main w r t only on = by (eqb_tells t 0)
  where
    by : ((eqb t 0 ≡ true) × (t ≡ 0)) ⊎ ((eqb t 0 ≡ false) × (t ≢ 0)) → t ≡ 0
    by (inl is) = is.1
    by (inr other) = absurd (no_both (was_started (spot_at (slice_get r.threads t))) on (only t other.1))

-- who was started stays so
pub started_stays : (w : World) (before after : Option JavaThread) → Moved w before after → was_started (spot_at before) ≡ true
    → was_started (spot_at after) ≡ true
started_stays w before after (still same) e = ap (λ o. was_started (spot_at o)) same ∙ e
started_stays w before after (told x y was now status kept permit interrupted) e =
    ap (λ o. was_started (spot_at o)) now ∙ ap (λ s. was_started (spot_of s)) status ∙ sym (ap (λ o. was_started (spot_at o)) was) ∙ e
started_stays w before after (woken x y o count deadline wake was now waits enters kept) e =
    live_started after y (Reenter o count wake) now enters
started_stays w before after (started x y was now new is) e = by is.phase
  where
    by : (y.thread.status ≡ Live Run) ⊎ ((o : ℕ) × (y.thread.status ≡ Live (Entering o))) → was_started (spot_at after) ≡ true
    by (inl run) = live_started after y Run now run
    by (inr line) = live_started after y (Entering line.0) now line.1
started_stays w before after (made y was now new empty) e =
    let z : false ≡ true = sym (ap (λ o. was_started (spot_at o)) was) ∙ e in absurd cc

started_before : (w : World) (before after : Option JavaThread) → Moved w before after → was_started (spot_at after) ≡ false
    → was_started (spot_at before) ≡ false
started_before w before after moved off = by (was_started (spot_at before)) refl
  where
    by : (b : Bool) → was_started (spot_at before) ≡ b → was_started (spot_at before) ≡ false
    by true e = absurd (no_both (was_started (spot_at after)) (started_stays w before after moved e) off)
    by false e = e

-- the thread that steps was started, and stays so
pub own_started : (w : World) (r q : State) (t : ℕ) → LiveStep w t r q → was_started (spot_at (slice_get q.threads t)) ≡ true
own_started w r q t l =
    let y = l.stepped.moves.there l.thread l.there in
    ap (λ o. was_started (spot_at o)) y.1 ∙ (l.stepped.moves.own y.0 y.1).begun

-- a step of a thread leads to a state in which only main was started only from such a state, and it is main's
pub record ByMain (w : World) (r : State) (t : ℕ) : Type 0 where
  pub only : OnlyMain (look_of w r)
  pub main : t ≡ 0

pub step_by_main : (p : Setting) (r q : State) (t : ℕ) (pick : Option ℕ) → step p r t pick ≡ Some q → OnlyMain (look_of p.world q)
    → ByMain p.world r t
step_by_main p r q t pick e only = record { only = λ u ne. by u ne (eqb_tells u t); main = main }
  where
    l : LiveStep p.world t r q
    l = step_moves p r q t pick e

    main : t ≡ 0
    main = started_is_main p.world q t only (own_started p.world r q t l)

    by : (u : ℕ) → u ≢ 0 → ((eqb u t ≡ true) × (u ≡ t)) ⊎ ((eqb u t ≡ false) × (u ≢ t)) → was_started (spot_at (slice_get r.threads u)) ≡ false
    by u ne (inl me) = absurd (ne (me.1 ∙ main))
    by u ne (inr other) =
        started_before p.world (slice_get r.threads u) (slice_get q.threads u) (l.stepped.moves.others u other.1) (only u ne)

steps_by_main : (p : Setting) (n : ℕ) (r q : State) (t : ℕ) → steps p n r t ≡ Some q → OnlyMain (look_of p.world q) → OnlyMain (look_of p.world r)
steps_by_main p zero r q t e only = subst (λ s. OnlyMain (look_of p.world s)) (sym (inner_state r q e)) only
steps_by_main p (suc n) r q t e only =
    let s = some_is (steps p n r t) (λ s. step p s t None) q e in
    steps_by_main p n r s.0 t s.1 (step_by_main p s.0 q t None s.2 only).only

pub entry_by_main : (p : Setting) (r q : State) (t n : ℕ) (pick : Option ℕ) → after_steps p r t n pick ≡ Some q → OnlyMain (look_of p.world q)
    → ByMain p.world r t
entry_by_main p r q t zero pick e only = absurd cc
entry_by_main p r q t (suc n) pick e only =
    let s = some_is (steps p n r t) (λ s. step p s t pick) q e in
    let last = step_by_main p s.0 q t pick s.2 only in
    record { only = steps_by_main p n r s.0 t s.1 last.only; main = last.main }

pub tick_by_main : (w : World) (r q : State) (now : ℕ) → at_time r now ≡ Some q → OnlyMain (look_of w q) → OnlyMain (look_of w r)
tick_by_main w r q now e only u ne = started_before w (slice_get r.threads u) (slice_get q.threads u) (time_moves w r q u now e) (only u ne)

-- ---- histories

pub what_by_main : (p : Setting) (first r q : State) (what : What) → state_after (machine_from p first) r what ≡ Some q
    → OnlyMain (look_of p.world q) → OnlyMain (look_of p.world r) × ((t n : ℕ) (pick : Option ℕ) → what ≡ Step t n pick → t ≡ 0)
what_by_main p first r q (Mount t) e only = (subst (λ s. OnlyMain (look_of p.world s)) (sym (inner_state r q e)) only, λ u n pick is. absurd cc)
what_by_main p first r q (Unmount t) e only = (subst (λ s. OnlyMain (look_of p.world s)) (sym (inner_state r q e)) only, λ u n pick is. absurd cc)
what_by_main p first r q (Step t n pick) e only =
    let made = (grouped_is (is_grouped p.world r t n) (after_steps p r t n pick) q e).1 in
    let b = entry_by_main p r q t n pick made only in
    (b.only, λ u k other is. let same : t ≡ u = cc in sym same ∙ b.main)
what_by_main p first r q (Clock now) e only = (tick_by_main p.world r q now e only, λ u n pick is. absurd cc)

pub replay_by_main : (p : Setting) (first : State) (es : List Entry) (r q : State) → replay (machine_from p first) r es ≡ Some q
    → OnlyMain (look_of p.world q) → OnlyMain (look_of p.world r) × Each IsOfMain es
replay_by_main p first [] r q e only = (subst (λ s. OnlyMain (look_of p.world s)) (sym (inner_state r q e)) only, tt)
replay_by_main p first (a ∷ es) r q e only =
    let s = some_is (state_after (machine_from p first) r a.what) (λ s. replay (machine_from p first) s es) q e in
    let rest = replay_by_main p first es s.0 q s.2 only in
    let here = what_by_main p first r s.0 a.what s.1 rest.0 in (here.0, (here.1, rest.1))

pub steps_are_of_main : StepsAreOfMain
steps_are_of_main p first carriers history v e only =
    (replay_by_main p first (java history) first v.state (runs_without_carriers (machine_from p first) carriers history v e) only).1
