-- Whom a step picks: who has waited longest on a monitor.
use Rattle.std.proofs.Common.{◌≡◌, ◌<◌, ℕ, Bool, true, false, List, [], ◌∷◌, Option, None, Some, refl, ap, sym, subst, ◌∙◌, arith}
use Rattle.std.specs.Prelude.{slice_get}
use Rattle.std.proofs.lemmas.Bool.{eq-eqb}
use Rattle.thread_lists.proofs.CountLaws.{first-held}
use Rattle.link_model.specs.World.{World}
use Rattle.monitors.specs.Monitors.{Monitors, monitor_of}
use Rattle.schedule_model.specs.Look.{Look, in_wait_list, is_waiting}
use Rattle.schedule_model.specs.Schedule.{Schedule}
use Rattle.schedule_model.specs.Entries.{is_pick}
use Rattle.schedule_model.specs.Puts.{is_first}
use Rattle.schedule_model.specs.Woken.{once_if}
use Rattle.ref_model.specs.State.{State}
use Rattle.ref_model.specs.Looks.{look_of}
use Rattle.monitor_soundness.proofs.ListLaws.{waiting_is}
use Rattle.program_state.specs.Monitors.{HoldsMonitors}
use Rattle.machine.specs.Lists.{HasLists}
use Rattle.machine.specs.Moves.{PicksFirst}

first_is : (xs : List ℕ) (u : ℕ) → slice_get xs 0 ≡ Some u → is_first xs u ≡ true
first_is [] u e = absurd cc
first_is (x ∷ xs) u e = let same : x ≡ u = cc in eq-eqb x u same

there : (b : Bool) → 0 < once_if b → b ≡ true
there true h = refl
there false h = absurd (omega arith)

waiting_pick : (l : Look) (s : Schedule) (u o : ℕ) → l.spot u ≡ in_wait_list o → is_first (s.wait_list o) u ≡ true → is_pick l s (Some u) ≡ true
waiting_pick l s u o spot first = rw spot first

pub may_pick : (w : World) (r : State) (s : Schedule) (a : Monitors) (pick : Option ℕ) → HasLists a s → HoldsMonitors a r.threads r.owners → PicksFirst a pick
    → is_pick (look_of w r) s pick ≡ true
may_pick w r s a None lists held first = refl
may_pick w r s a (Some u) lists held first =
    let o = first.monitor in
    let here = first-held (monitor_of a o).wait_list u first.first_is in
    let waits = there (is_waiting o ((look_of w r).spot u)) (subst (λ n. 0 < n) (held.waits u o) here) in
    waiting_pick (look_of w r) s u o (waiting_is o ((look_of w r).spot u) waits)
    (first_is (s.wait_list o) u (ap (λ xs. slice_get xs 0) (sym (lists.waits o)) ∙ first.first_is))
