use Rattle.std.proofs.Common.{rules, subst}
use Rattle.sleep_wheel.specs.Sleepers.{Sleepers, IsEarliest}
use Rattle.sleep_wheel.specs.Wheel.{wheel_view}
use Rattle.sleep_wheel.proofs.AlarmLaws.{earliest_is}
use Rattle.sleep_wheel.proofs.wheel.Wheel.earliest.Goals as goal

pub returns-clause-least : goal.returns-clause-least
returns-clause-least c =
    let top = c.in_ok-top.top.now in
    let covers = c.self.invariant.covers in
    let live = c.self.invariant.on_top.live top (search rules) c.in_ok-top.ensures.lookup in
    subst (λ (w : Sleepers). IsEarliest w top.0.sleeper.deadline) c.self.view_is (earliest_is (wheel_view c.self.inside) _ top covers (c.in_ok-top.ensures.greatest covers.heap) live)
