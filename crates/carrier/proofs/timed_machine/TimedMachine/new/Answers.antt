use Rattle.std.proofs.Common.{ap, ◌∙◌}
use Rattle.machine.specs.Machines.{Known}
use Rattle.carrier.proofs.TimeLaws.{timed_at_first}
use Rattle.carrier.proofs.timed_machine.TimedMachine.new.Goals as goal

pub invariant_of-result : goal.invariant_of-result
invariant_of-result g c =
    timed_at_first (g.C.Clock.gives c.args.clock.now) c.in_ok-new.field-0.value (ap (λ (m : Known). m.history) c.in_ok-new.ensures.ok ∙ c.requires)
