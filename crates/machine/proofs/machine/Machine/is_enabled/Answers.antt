use Rattle.std.proofs.Common.{◌≡◌, ◌-◌, length, subst, sym, vec_capacity}
use Rattle.machine.specs.Hands.{IsMounted}
use Rattle.machine.specs.Insides.{setting_in}
use Rattle.machine.specs.Legal.{Works}
use Rattle.machine.specs.Machines.{Given, Known}
use Rattle.ref_model.specs.Step.{enabled}
use Rattle.machine.proofs.StepCallLaws.{enabled_given, mounted_below}
use Rattle.machine.proofs.machine.Machine.is_enabled.Goals as goal

pub may_step-requires : goal.may_step-requires
may_step-requires c =
    let a = c.self.inside in
    mounted_below (setting_in a) a.carriers a.state a.deques a.mounted.items a.history.items a.told (vec_capacity a.history - length a.history.items) c.self.invariant.sound
    c.args.t (subst Works (sym c.self.view_is) c.requires.works) (subst (λ (k : Known). IsMounted k c.args.t) (sym c.self.view_is) c.requires.mounted)

pub returns : goal.returns
returns c =
    let a = c.self.inside in
    subst (λ (k : Known). Given k (λ v. c.may_step.result ≡ enabled v.state c.args.t)) c.self.view_is
    (enabled_given (setting_in a) a.carriers a.state a.deques a.mounted.items a.history.items a.told (vec_capacity a.history - length a.history.items) c.self.invariant.sound
    c.args.t (subst Works (sym c.self.view_is) c.requires.works) c.may_step.result c.may_step.ensures)
