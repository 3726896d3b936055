use Rattle.std.proofs.Common.{◌-◌, length, subst, sym, vec_capacity}
use Rattle.machine.specs.Hands.{HasPhase, Lives}
use Rattle.machine.specs.Insides.{setting_in}
use Rattle.machine.specs.Legal.{Works}
use Rattle.machine.specs.Machines.{Known}
use Rattle.machine.proofs.StepCallLaws.{phase_given, phase_there}
use Rattle.machine.proofs.machine.Machine.phase.Goals as goal

pub phase-requires : goal.phase-requires
phase-requires c =
    let a = c.self.inside in
    phase_there (setting_in a) a.carriers a.state a.deques a.mounted.items a.history.items a.told (vec_capacity a.history - length a.history.items) c.self.invariant.sound
    c.args.t (subst Works (sym c.self.view_is) c.requires.works) (subst (λ (k : Known). Lives k c.args.t) (sym c.self.view_is) c.requires.live)

pub returns : goal.returns
returns c =
    let a = c.self.inside in
    subst (λ (k : Known). HasPhase k c.args.t c.phase.result) c.self.view_is
    (phase_given (setting_in a) a.carriers a.state a.deques a.mounted.items a.history.items a.told (vec_capacity a.history - length a.history.items) c.self.invariant.sound
    c.args.t (subst Works (sym c.self.view_is) c.requires.works) (subst (λ (k : Known). Lives k c.args.t) (sym c.self.view_is) c.requires.live)
    c.phase.result c.phase.ensures)
