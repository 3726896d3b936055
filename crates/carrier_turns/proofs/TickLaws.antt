-- What an entry of time does.
use Rattle.std.proofs.Common.{◌≡◌, inl, inr, ℕ, Bool, true, false, not, List, slice_get, Option, Some, None, refl, ap, sym, ◌∙◌, subst, cond, ◌&&◌, ◌||◌}
use Rattle.std.proofs.lemmas.Bool.{and_from, and_parts, or_cases, or_left, or_right}
use Rattle.items.proofs.Binds.{some_is}
use Rattle.history.specs.declared.entry.What.TheVariants.{Clock}
use Rattle.schedule_model.specs.Changes.{Changes}
use Rattle.schedule_model.specs.Look.{Look, is_in_line}
use Rattle.schedule_model.specs.Schedule.{Schedule}
use Rattle.schedule_model.specs.Entries.{after_tick, came_late, has_mounted, holds, is_last_act, may_tick, may_unmount}
use Rattle.schedule_model.specs.Run.{Scheduled, scheduled_after, with_schedule}
use Rattle.schedule_model.proofs.PutLaws.{line_of}
use Rattle.schedule_model.proofs.RunLaws.{inner, scheduled, under_is}
use Rattle.ref_model.specs.Setting.{Setting}
use Rattle.ref_model.specs.State.{State}
use Rattle.ref_model.specs.Step.{enabled}
use Rattle.ref_model.specs.Waiting.{at_time}
use Rattle.ref_model.specs.Looks.{look_of, machine_from}
use Rattle.schedule_soundness.specs.HistoryLaws.{IsProgramAfter}
use Rattle.schedule_soundness.proofs.Histories.{is_after}

-- what is mounted and what is owed stays, and the state is that at the later time
pub record Ticks (p : Setting) (v w : Scheduled State) (now : ℕ) : Type 0 where
  pub going : (look_of p.world v.state).ended ≡ false
  pub tick : at_time v.state now ≡ Some w.state
  pub mounted : w.schedule.mounted ≡ v.schedule.mounted
  pub owes : w.schedule.owes ≡ v.schedule.owes
  pub off : w.schedule.was_off ≡ (λ t. v.schedule.was_off t || not (enabled w.state t))

not_true : (b : Bool) → not b ≡ true → b ≡ false
not_true true e = absurd cc
not_true false e = refl

pub ticked : (p : Setting) (first : State) (v w : Scheduled State) (k now : ℕ) → scheduled_after (machine_from p first) v k (Clock now) ≡ Some w → Ticks p v w now
ticked p first v w k now e =
    let l = look_of p.world in
    let given = under_is (may_tick (l v.state) v.schedule k) _ w e in
    let q = some_is (at_time v.state now) (λ q. Some (with_schedule q (after_tick (l v.state) (l q) v.schedule k))) w given.1 in
    let same = inner (with_schedule q.0 (after_tick (l v.state) (l q.0) v.schedule k)) w q.2 in
    subst (λ (x : Scheduled State). Ticks p v x now) same (record {
      going = not_true (l v.state).ended (and_parts (not (l v.state).ended) _ given.0).0;
      tick = q.1;
      mounted = refl;
      owes = refl;
      off = refl;
    })

-- what a carrier may unmount it still may
pub tick_allows : (p : Setting) (first : State) (v w : Scheduled State) (k now c t : ℕ) → IsProgramAfter p first v
    → scheduled_after (machine_from p first) v k (Clock now) ≡ Some w → (look_of p.world w.state).ended ≡ false
    → may_unmount (look_of p.world v.state) v.schedule c t ≡ true → may_unmount (look_of p.world w.state) w.schedule c t ≡ true
tick_allows p first v w k now c t a e goes may =
    let parts = and_parts (has_mounted s c t) (cond l.ended (is_last_act l s c t) (s.owes t || came_late l s t)) may in
    let was : (s.owes t || came_late l s t) ≡ true = sym (ap (λ b. cond b (is_last_act l s c t) (s.owes t || came_late l s t)) x.going) ∙ parts.1 in
    and_from (has_mounted z c t) (cond n.ended (is_last_act n z c t) (z.owes t || came_late n z t))
    (ap (λ (ms : List (Option ℕ)). holds t (slice_get ms c)) x.mounted ∙ parts.0)
    (ap (λ b. cond b (is_last_act n z c t) (z.owes t || came_late n z t)) goes ∙ reason was)
  where
    l : Look
    l = look_of p.world v.state

    n : Look
    n = look_of p.world w.state

    s : Schedule
    s = v.schedule

    z : Schedule
    z = w.schedule

    x : Ticks p v w now
    x = ticked p first v w k now e

    change : Changes (look_of p.world v.state) (look_of p.world w.state) None
    change =
        let after = is_after p first v a in
        after.promises.ticks v.state w.state now (scheduled (machine_from p first) v after).0 x.tick goes

    late : came_late l s t ≡ true → came_late n z t ≡ true
    late f =
        let loose = and_parts (not (l.pinned t)) _ f in
        let line = and_parts (is_in_line (l.spot t)) (s.was_off t) loose.1 in
        let spot = line_of (l.spot t) line.0 in
        and_from (not (n.pinned t)) (is_in_line (n.spot t) && z.was_off t) (ap not (change.pinned t (λ i. cc)) ∙ loose.0)
        (and_from (is_in_line (n.spot t)) (z.was_off t) (ap is_in_line (change.in_line t spot.0 (λ i. cc) spot.1))
        (ap (λ o. o t) x.off ∙ or_left (s.was_off t) (not (enabled w.state t)) line.1))

    reason : (s.owes t || came_late l s t) ≡ true → (z.owes t || came_late n z t) ≡ true
    reason f =
        elim (or_cases (s.owes t) (came_late l s t) f) [
          | inl owed ↦ or_left (z.owes t) (came_late n z t) (ap (λ o. o t) x.owes ∙ owed)
          | inr came ↦ or_right (z.owes t) (came_late n z t) (late came)
        ]
