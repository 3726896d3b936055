use Rattle.std.proofs.Common.{ap, ◌∙◌}
use Rattle.machine.specs.Live.{mounted_threads}
use Rattle.machine.proofs.LeavingLaws.{if_ok, lists_mounted}
use Rattle.machine.proofs.machine.Machine.mounted_threads.Goals as goal

pub returns : goal.returns
returns c =
    if_ok c.mounted_in.result _ _ (λ threads is. lists_mounted c.self.inside c.args.self.now threads.items c.self.view_is c.self.invariant c.requires (is ∙ ap mounted_threads c.as_slice.ensures.value))
    c.mounted_in.ensures
