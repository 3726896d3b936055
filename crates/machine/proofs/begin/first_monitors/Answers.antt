use Rattle.std.proofs.Common.{◌≡◌, ◌+◌, ℕ, [], None, Some, ap, subst, sym, ◌∙◌}
use Rattle.monitors.specs.Monitors.{Monitors, free, monitor_of}
use Rattle.machine.specs.Begin.{AreFirst}
use Rattle.machine.proofs.BeginLaws.{main_owns, none_owned}
use Rattle.machine.proofs.begin.first_monitors.Goals as goal
use Rattle.machine.proofs.begin.first_monitors.Goals.{in-Some+in_ok-room, in_default}

pub returns : goal.returns
returns c =
    let fresh : Monitors = record { used = []; threads = 1; spare = 0 } in
    let made : c.add_thread.new.self ≡ fresh = c.in_ok-add_thread.ensures.ok ∙ ap (λ (m : Monitors). record m { threads = m.threads + 1 }) c.new-monitors.ensures in
    let nobody : (o : ℕ) → monitor_of c.add_thread.new.self o ≡ free = λ o. ap (λ m. monitor_of m o) made in
    let one : c.add_thread.new.self.threads ≡ 1 = ap (λ (m : Monitors). m.threads) made in
    elim c.match-owned.branch [
      | in-Some+in_ok-room w ↦
          subst (AreFirst c.match-owned.monitors) (sym w.in-Some.is)
          (subst (λ m. AreFirst m (Some w.in-Some.monitor)) (sym w.monitors-is)
          (main_owns w.room.new.self w.enter.new.self (λ o. w.in_ok-room.ensures.monitors o ∙ nobody o)
          (w.enter.ensures.monitor.threads ∙ w.in_ok-room.ensures.threads ∙ one) w.in-Some.monitor w.enter.ensures.monitor))
      | in_default w ↦
          subst (AreFirst c.match-owned.monitors) (sym w.in_default.is)
          (subst (λ m. AreFirst m None) (sym w.monitors-is) (none_owned c.add_thread.new.self c.add_thread.new.self nobody one nobody))
    ]
