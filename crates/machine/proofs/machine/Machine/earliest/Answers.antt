use Rattle.std.proofs.Common.{◌-◌, length, subst, sym, vec_capacity}
use Rattle.machine.specs.Clocks.{IsEarliest}
use Rattle.machine.specs.Insides.{setting_in}
use Rattle.machine.specs.Legal.{Works}
use Rattle.machine.specs.Machines.{Known}
use Rattle.machine.proofs.ClockLaws.{earliest_is}
use Rattle.machine.proofs.machine.Machine.earliest.Goals as goal

pub returns : goal.returns
returns c =
    let a = c.self.inside in
    subst (λ (k : Known). IsEarliest k c.earliest.result) c.self.view_is
    (earliest_is (setting_in a) a.carriers a.state a.deques a.mounted.items a.history.items a.told (vec_capacity a.history - length a.history.items) c.self.invariant.sound
    (subst Works (sym c.self.view_is) c.requires.works) c.earliest.result c.earliest.ensures.none c.earliest.ensures.least)
