use Rattle.std.proofs.Common.{rules, subst}
use Rattle.sleep_wheel.specs.Sleepers.{Sleepers, sleepers_of, IsDueList}
use Rattle.sleep_wheel.proofs.DueLaws.{due_more, due_ends}
use Rattle.sleep_wheel.proofs.wheel.Wheel.due.Goals as goal

pub loop-sleeper-preserved : goal.loop-sleeper-preserved
loop-sleeper-preserved c = record {
  covers = c.take_due.ensures.covers;
  on_top = c.take_due.ensures.top;
  so_far = due_more _ _ _ _ _ _ _ c.loop-sleeper.invariant.so_far c.in-Some.ensures.first c.push_reserved.ensures.items;
  room = search rules;
  sleepers = search rules;
  sleepers_room = search rules;
  alarms = search rules;
  alarms_room = search rules;
}

pub returns-clause-due : goal.returns-clause-due
returns-clause-due c =
    subst (λ (w : Sleepers). IsDueList c.args.now (sleepers_of w) c.loop-sleeper.threads.items) c.self.view_is (due_ends c.args.now _ _ _ c.loop-sleeper.invariant.so_far c.in_default.ensures.none)
