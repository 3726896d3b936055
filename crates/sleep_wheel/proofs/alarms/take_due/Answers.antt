use Rattle.std.proofs.Common.{rules, sym, subst, List, Option}
use Rattle.sleep_wheel.specs.declared.sleeper.Sleeper.{Sleeper}
use Rattle.sleep_wheel.specs.Sleepers.{TakesFirst}
use Rattle.sleep_wheel.proofs.AlarmLaws.{none_due, takes_first}
use Rattle.sleep_wheel.proofs.alarms.take_due.Goals as goal

pub returns-then-now-alarm-clause-none : goal.returns-then-now-alarm-clause-none
returns-then-now-alarm-clause-none c = none_due _ _ _ _ c.requires.covers (c.in_ok-alarm.ensures.greatest c.requires.covers.heap) c.if-now-alarm.true

pub returns-clause-first : goal.returns-clause-first
returns-clause-first c =
    let top = c.in_ok-alarm.field-0.now in
    let made = takes_first c.args.now c.args.sleepers.now.slots _ top c.requires.covers (c.in_ok-alarm.ensures.greatest c.requires.covers.heap) (c.requires.top.live top (search rules) c.in_ok-alarm.ensures.lookup) c.if-now-alarm.false in
    subst (λ (after : List (Option Sleeper)). TakesFirst c.args.now c.args.sleepers.now.slots after top.0.sleeper) (sym c.remove.ensures.slots) made
