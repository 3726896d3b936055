use Rattle.std.proofs.Common.{◌≡◌, subst, sym, ◌∙◌}
use Rattle.ref_model.specs.Looks.{look_of}
use Rattle.machine.specs.Hands.{Holds}
use Rattle.machine.specs.Insides.{setting_in}
use Rattle.machine.specs.Machines.{Given, Known}
use Rattle.machine.proofs.PinLaws.{pinned_by_frames}
use Rattle.machine.proofs.machine.Machine.is_pinned.Goals as goal

pub returns : goal.returns
returns c =
    let x = c.args.mounted.now in
    subst (λ (k : Known). Given k (λ v. c.is_pinned.result ≡ (look_of k.setting.world v.state).pinned x.thread)) c.self.view_is
    (λ v at.
    c.is_pinned.ensures
    ∙ sym (pinned_by_frames (setting_in c.self.inside) v c.args.c x.thread x.stack.frames
    (subst (λ (k : Known). Holds k c.args.c x.thread 0 x.stack.frames) (sym c.self.view_is) c.requires v at)))
