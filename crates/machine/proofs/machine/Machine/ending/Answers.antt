use Rattle.std.proofs.Common.{◌-◌, ap, length, vec_capacity, rules, ◌∙◌}
use Rattle.machine.specs.Insides.{setting_in}
use Rattle.machine.specs.Machines.{machine_ending}
use Rattle.machine.proofs.StepCallLaws.{ending_there}
use Rattle.machine.proofs.machine.Machine.ending.Goals as goal

pub returns-in-None : goal.returns-in-None
returns-in-None c =
    let a = c.self.inside in
    ending_there (setting_in a) a.carriers a.state a.deques a.mounted.items a.history.items a.told (vec_capacity a.history - length a.history.items) c.self.invariant.sound
    c.ended_within.result c.len.result c.in-None.is (c.len.ensures ∙ search rules) c.ended_within.ensures ∙ ap machine_ending c.self.view_is
