use Rattle.std.proofs.Common.{◌-◌, length, subst, sym, vec_capacity}
use Rattle.machine.specs.Hands.{AreTypedInRun, Holds}
use Rattle.machine.specs.Insides.{setting_in}
use Rattle.machine.specs.Machines.{Known}
use Rattle.machine.proofs.StepCallLaws.{typed_hand}
use Rattle.machine.proofs.machine.Machine.frames_are_typed.Goals as goal

pub returns : goal.returns
returns c =
    let a = c.self.inside in
    let m = c.args.mounted.now in
    subst (λ (k : Known). AreTypedInRun k m.thread m.stack.frames) c.self.view_is
    (typed_hand (setting_in a) a.carriers a.state a.deques a.mounted.items a.history.items a.told (vec_capacity a.history - length a.history.items) c.self.invariant.sound
    c.args.c m.thread m.stack.frames (subst (λ (k : Known). Holds k c.args.c m.thread 0 m.stack.frames) (sym c.self.view_is) c.requires))
