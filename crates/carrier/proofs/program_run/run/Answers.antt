use Rattle.std.proofs.Common.{◌≡◌, subst}
use Rattle.std.specs.Prelude.{IfOk}
use Rattle.link_model.specs.World.{World}
use Rattle.ref_model.specs.Setting.{Setting}
use Rattle.carrier.specs.declared.execution.Execution.{Execution}
use Rattle.carrier.specs.Runs.{IsRun}
use Rattle.carrier.proofs.program_run.run.Goals as goal

pub returns : goal.returns
returns g c =
    subst (λ (w : World). IfOk c.run_ready.result (λ (x : Execution). (p : Setting) → p.world ≡ w → p.main ≡ c.args.main → p.limits ≡ c.args.limits
    → IsRun p (g.C.Clock.gives c.args.clock.now) c.args.carriers x.history.items x.out.items x.err.items x.listed.items x.ending)) c.in_ok-program.ensures c.run_ready.ensures
