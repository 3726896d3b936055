use Rattle.std.proofs.Common.{Option, ℕ, sym, subst, ◌∙◌}
use Rattle.program_state.specs.Timers.{IsTimerSet}
use Rattle.program_state.proofs.StepLaws.{on_ok}
use Rattle.program_state.proofs.WheelLaws.{no_timer_set}
use Rattle.program_state.proofs.timers.set_timer.Goals as goal

pub returns-in-Some : goal.returns-in-Some
returns-in-Some c =
    on_ok c.add_sleeper.result c.add_sleeper.ensures (λ set.
    subst (λ (d : Option ℕ). IsTimerSet c.args.t d c.args.wheel.now c.args.keys.now.items c.add_sleeper.new.wheel c.add_sleeper.new.keys.items) (sym c.in-Some.is ∙ c.later_than.ensures) set)

pub returns-in-None : goal.returns-in-None
returns-in-None c = no_timer_set c.args.t _ c.args.wheel.now c.args.keys.now.items (sym c.later_than.ensures ∙ c.in-None.is)
