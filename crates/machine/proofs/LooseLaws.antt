-- Threads that are taken up, which nothing pins.
use Rattle.std.proofs.Common.{◌≡◌, inl, inr, ℕ, Bool, true, false, Option, Some, ap, sym, ◌∙◌, arith, not, ◌&&◌, ◌==◌}
use Rattle.std.proofs.lemmas.Bool.{and_parts, cases_Bool, eqb-true}
use Rattle.items.proofs.Binds.{some_is}
use Rattle.history.specs.declared.entry.What.TheVariants.{Mount}
use Rattle.run_deques.specs.Take.{next}
use Rattle.schedule_model.specs.Look.{Look}
use Rattle.schedule_model.specs.Schedule.{on_carriers}
use Rattle.schedule_model.specs.Entries.{is_idle, mount, mounted_from, where_allowed}
use Rattle.schedule_model.specs.Run.{Scheduled, scheduled_after, with_schedule}
use Rattle.schedule_model.proofs.EntryLaws.{allowed_is}
use Rattle.schedule_model.proofs.RunLaws.{scheduled}
use Rattle.ref_model.specs.Setting.{Setting}
use Rattle.ref_model.specs.State.{State}
use Rattle.ref_model.specs.Looks.{look_of, machine_from}
use Rattle.schedule_soundness.specs.HistoryLaws.{IsProgramAfter}
use Rattle.schedule_soundness.proofs.Histories.{deques_have_live, is_after, pinned_are_mounted}
use Rattle.machine.proofs.PlaceLaws.{next_in}

-- a thread that a carrier takes up isn't pinned
pub taken_is_loose : (p : Setting) (first : State) (v w : Scheduled State) → IsProgramAfter p first v → (k u : ℕ)
    → scheduled_after (machine_from p first) v k (Mount u) ≡ Some w → (look_of p.world v.state).ended ≡ false → (look_of p.world v.state).pinned u ≡ false
taken_is_loose p first v w a k u e goes =
    let after = is_after p first v a in
    let is = scheduled (machine_from p first) v after in
    let s = some_is (mount l v.schedule k u) (λ s. Some (with_schedule v.state s)) w e in
    let found = some_is (next v.schedule.deques k)
    (λ found. where_allowed (not l.ended && (is_idle v.schedule k && (found.1 == u))) (mounted_from l v.schedule k found)) s.0 s.1 in
    let given = allowed_is (not l.ended && (is_idle v.schedule k && (found.0.1 == u))) (mounted_from l v.schedule k found.0) s.0 found.2 in
    let both = and_parts (is_idle v.schedule k) (found.0.1 == u) (and_parts (not l.ended) _ given.0).1 in
    let nowhere = (deques_have_live p first v a goes found.0.1 (next_in l v.schedule k found.0.0 found.0.1 is.1.sizes both.0 found.1)).1 in
    ap l.pinned (sym (eqb-true found.0.1 u both.1)) ∙ unpinned found.0.1 nowhere
  where
    l : Look
    l = look_of p.world v.state

    unpinned : (t : ℕ) → on_carriers t v.schedule ≡ 0 → l.pinned t ≡ false
    unpinned t none =
        elim (cases_Bool (l.pinned t)) [
          | inl held ↦ let there = (pinned_are_mounted p first v a goes).pinned t held in absurd (omega arith)
          | inr loose ↦ loose
        ]
