use Rattle.std.proofs.Common.{ap}
use Rattle.std.specs.Prelude.{map}
use Rattle.verify_code.specs.Guards.{guard_in}
use Rattle.verify_code.proofs.MergedLaws.{merge_one}
use Rattle.verify_code.proofs.environment.Environment.merged.Goals as goal

pub loop-guard-preserved : goal.loop-guard-preserved
loop-guard-preserved g c =
    merge_one c.args.self.now (map guard_in c.loop-guard.merged.guards.items) (map guard_in c.put_renamed.new.merged.guards.items) (map guard_in c.loop-guard.rest.now) (guard_in c.in-Some.guard.now) (map guard_in c.in-Some.behind.now) c.args.self.now.handlers
    (ap (λ gs. map guard_in gs) c.in-Some.ensures.cases.0) c.loop-guard.invariant c.in_ok-put_renamed.ensures
