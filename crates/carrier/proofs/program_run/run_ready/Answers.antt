use Rattle.std.proofs.Common.{ap, refl, sym, ◌∙◌}
use Rattle.std.specs.Prelude.{is_some}
use Rattle.machine.specs.Machines.{Known}
use Rattle.carrier_turns.proofs.EndingLaws.{none_by}
use Rattle.carrier.proofs.RunLaws.{if_ok, of_setting}
use Rattle.carrier.proofs.ThreadLaws.{begins_at_first}
use Rattle.carrier.proofs.TimeLaws.{timed_at_first}
use Rattle.carrier.proofs.program_run.run_ready.Goals as goal

pub returns-then-is_some : goal.returns-then-is_some
returns-then-is_some g c =
    let m = c.in_ok-machine.machine in
    let gives = g.C.Clock.gives c.args.clock.now in
    if_ok c.leave.result _ _ (λ x run p world main limits.
    of_setting m m p gives c.args.program.now c.args.main c.args.limits c.args.carriers x.history.items x.out.items x.err.items x.listed.items x.ending refl c.in_ok-machine.ensures world main limits run)
    (c.leave.ensures gives (timed_at_first gives m (ap (λ (k : Known). k.history) c.in_ok-machine.ensures)))

pub run_machine-requires-clause-begins : goal.run_machine-requires-clause-begins
run_machine-requires-clause-begins g c κs within =
    begins_at_first c.in_ok-machine.machine _ c.args.carriers c.in_ok-machine.ensures c.is_legal.ensures
    (none_by _ (sym (c.is_some.ensures ∙ ap is_some c.ending.ensures) ∙ c.if-is_some.false))

pub returns : goal.returns
returns g c =
    let m = c.in_ok-machine-2.machine in
    let gives = g.C.Clock.gives c.args.clock.now in
    if_ok c.leave-2.result _ _ (λ x run p world main limits.
    of_setting m c.in_ok-machine.machine p gives c.args.program.now c.args.main c.args.limits c.args.carriers x.history.items x.out.items x.err.items x.listed.items x.ending
    c.in_ok-machine-2.ensures.parts c.in_ok-machine.ensures world main limits run)
    (c.leave-2.ensures gives c.in_ok-machine-2.ensures.timed)
