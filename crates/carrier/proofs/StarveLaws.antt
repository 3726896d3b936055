-- Where main alone was started, and may step, the carriers keep nobody from going on.
use Rattle.std.proofs.Common.{◌≡◌, ◌<◌, ◌+◌, ◌==◌, inl, inr, ℕ, Bool, true, false, not, ◌&&◌, ◌||◌, List, [], ◌∷◌, length, slice_get, Option, Some, None, refl, ap, sym, subst, ◌∙◌, arith}
use Rattle.std.specs.Prelude.{get_or}
use Rattle.std.specs.List.{list_all, list_any}
use Rattle.std.proofs.lemmas.Bool.{and_parts, cases_eq, eq-eqb}
use Rattle.std.proofs.lemmas.List.{length-replicate}
use Rattle.std.proofs.lemmas.List.Folds.{list_all_at}
use Rattle.std.proofs.lemmas.Option.{slice_get-get_or}
use Rattle.std.proofs.Math.ListN.{length-set}
use Rattle.items.proofs.Binds.{some_is}
use Rattle.history.specs.declared.entry.Entry.{Entry}
use Rattle.history.specs.declared.entry.What.{What}
use Rattle.history.specs.declared.entry.What.TheVariants.{Mount, Unmount, Step, Clock}
use Rattle.run_deques.specs.Take.{next}
use Rattle.schedule_model.specs.Look.{Look}
use Rattle.schedule_model.specs.Schedule.{Schedule, opening_schedule}
use Rattle.schedule_model.specs.Puts.{all_threads}
use Rattle.schedule_model.specs.Entries.{after_step, after_tick, after_unmount, holds, is_idle, may_step, may_tick, may_unmount, mount, mounted_from, unmount, where_allowed}
use Rattle.schedule_model.specs.Run.{Scheduled, schedule_from, schedule_of, scheduled_after, with_schedule}
use Rattle.schedule_model.specs.Stalled.{can_go_on, has_time, is_starved, is_stuck}
use Rattle.schedule_model.proofs.EntryLaws.{allowed_is, on_there}
use Rattle.schedule_model.proofs.RunLaws.{inner, under_is}
use Rattle.ref_model.specs.Setting.{Setting}
use Rattle.ref_model.specs.State.{State}
use Rattle.ref_model.specs.Waiting.{at_time}
use Rattle.ref_model.specs.Step.{enabled}
use Rattle.ref_model.specs.Looks.{grouped_steps, look_of, machine_from, yields_after}
use Rattle.schedule_soundness.specs.HistoryLaws.{IsProgramAfter}
use Rattle.schedule_soundness.specs.Started.{OnlyMain, was_started}
use Rattle.schedule_soundness.proofs.Placed.{placed_were_started}

-- ---- after each history there are as many carriers as at first

entry_mounted : (p : Setting) (first : State) (v w : Scheduled State) (c : ℕ) (what : What) → scheduled_after (machine_from p first) v c what ≡ Some w
    → length w.schedule.mounted ≡ length v.schedule.mounted
entry_mounted p first v w c (Mount t) e =
    let l = look_of p.world v.state in
    let s = some_is (mount l v.schedule c t) (λ s. Some (with_schedule v.state s)) w e in
    let found = some_is (next v.schedule.deques c) (λ found. where_allowed (not l.ended && (is_idle v.schedule c && (found.1 == t))) (mounted_from l v.schedule c found)) s.0 s.1 in
    let given = allowed_is (not l.ended && (is_idle v.schedule c && (found.0.1 == t))) (mounted_from l v.schedule c found.0) s.0 found.2 in
    ap (λ (u : Scheduled State). length u.schedule.mounted) (sym (inner (with_schedule v.state s.0) w s.2))
    ∙ ap (λ (x : Schedule). length x.mounted) (sym given.1) ∙ length-set _ _ _
entry_mounted p first v w c (Unmount t) e =
    let l = look_of p.world v.state in
    let s = some_is (unmount l v.schedule c t) (λ s. Some (with_schedule v.state s)) w e in
    let given = allowed_is (may_unmount l v.schedule c t) (after_unmount l v.schedule c t) s.0 s.1 in
    ap (λ (u : Scheduled State). length u.schedule.mounted) (sym (inner (with_schedule v.state s.0) w s.2))
    ∙ ap (λ (x : Schedule). length x.mounted) (sym given.1) ∙ length-set _ _ _
entry_mounted p first v w c (Step t n pick) e =
    let l = look_of p.world in
    let given = under_is (may_step (l v.state) v.schedule c t pick) _ w e in
    let q = some_is (grouped_steps p v.state t n pick)
    (λ q. Some (with_schedule q (after_step (l v.state) (l q) v.schedule c t (yields_after p v.state t n)))) w given.1 in
    ap (λ (u : Scheduled State). length u.schedule.mounted)
    (sym (inner (with_schedule q.0 (after_step (l v.state) (l q.0) v.schedule c t (yields_after p v.state t n))) w q.2))
entry_mounted p first v w c (Clock now) e =
    let l = look_of p.world in
    let given = under_is (may_tick (l v.state) v.schedule c) _ w e in
    let q = some_is (at_time v.state now) (λ q. Some (with_schedule q (after_tick (l v.state) (l q) v.schedule c))) w given.1 in
    ap (λ (u : Scheduled State). length u.schedule.mounted) (sym (inner (with_schedule q.0 (after_tick (l v.state) (l q.0) v.schedule c)) w q.2))

entries_mounted : (p : Setting) (first : State) (es : List Entry) (v w : Scheduled State) → schedule_from (machine_from p first) v es ≡ Some w
    → length w.schedule.mounted ≡ length v.schedule.mounted
entries_mounted p first [] v w e = ap (λ (u : Scheduled State). length u.schedule.mounted) (sym (inner v w e))
entries_mounted p first (x ∷ es) v w e =
    let u = some_is (scheduled_after (machine_from p first) v x.carrier x.what) (λ u. schedule_from (machine_from p first) u es) w e in
    entries_mounted p first es u.0 w u.2 ∙ entry_mounted p first v u.0 x.carrier x.what u.1

mounted_count : (p : Setting) (first : State) (carriers : ℕ) (history : List Entry) (v : Scheduled State) → schedule_of (machine_from p first) carriers history ≡ Some v
    → length v.schedule.mounted ≡ carriers
mounted_count p first carriers history v e =
    entries_mounted p first history (with_schedule first (opening_schedule carriers)) v e ∙ length-replicate carriers _

-- ---- nobody but main is mounted

no_both : (b : Bool) → b ≡ true → b ≡ false → ⊥
no_both b e f = absurd cc

not_true : (b : Bool) → not b ≡ true → b ≡ false
not_true true e = absurd cc
not_true false e = refl

module _ (p : Setting) (first : State) (v : Scheduled State) (a : IsProgramAfter p first v) (only : OnlyMain (look_of p.world v.state))
    (may : enabled v.state 0 ≡ true) where
  abbrev pub l : Look
  l = look_of p.world v.state

  -- the thread that the first carrier has isn't kept back
  not_stuck : (o : Option ℕ) → slice_get v.schedule.mounted 0 ≡ Some o → is_stuck l o ≡ true → ⊥
  not_stuck None at stuck = absurd cc
  not_stuck (Some t) at stuck =
      let off : can_go_on l t ≡ false = not_true (can_go_on l t) (and_parts (l.pinned t) (not (can_go_on l t)) stuck).1 in
      let there = on_there v.schedule 0 t (ap (holds t) at ∙ eq-eqb t t refl) in
      let started : was_started (l.spot t) ≡ true = placed_were_started p first v a t (omega (arith, there)) in
      let main : t ≡ 0 = elim (cases_eq t 0) [
        | inl same ↦ same
        | inr other ↦ absurd (no_both (was_started (l.spot t)) started (only t other))
      ] in
      no_both (can_go_on l 0) (ap (λ b. b || has_time l 0) may) (subst (λ u. can_go_on l u ≡ false) main off)

  pub starves_nobody : is_starved l v.schedule ≡ true → ⊥
  starves_nobody starved = by (is_stuck l (get_or v.schedule.mounted 0 None)) refl
    where
      some : 0 < length v.schedule.mounted
      some = subst (λ n. 0 < n) (sym (mounted_count p first a.carriers a.history v a.runs)) a.some

      all : list_all (is_stuck l) v.schedule.mounted ≡ true
      all =
          (and_parts (list_all (is_stuck l) v.schedule.mounted) (list_any (can_go_on l) (all_threads l))
          (and_parts (not l.ended) (list_all (is_stuck l) v.schedule.mounted && list_any (can_go_on l) (all_threads l)) starved).1).0

      by : (b : Bool) → is_stuck l (get_or v.schedule.mounted 0 None) ≡ b → ⊥
      by true e = not_stuck (get_or v.schedule.mounted 0 None) (slice_get-get_or v.schedule.mounted 0 None some) e
      by false e = no_both (list_all (is_stuck l) v.schedule.mounted) all (list_all_at (is_stuck l) v.schedule.mounted 0 None some e)
