use Rattle.std.proofs.Common.{sym, ◌∙◌, arith}
use Rattle.verify_code.proofs.MethodLaws.{fault_at_number, fault_behind_number}
use Rattle.verify_code.proofs.method_fault.world_fault.Goals as goal

pub returns-in-Some : goal.returns-in-Some
returns-in-Some g c =
    let w = g.L.Lookups.world c.args.world.now in
    fault_at_number w c.loop-n.n w.methods c.in-Some.fault (omega (arith, c.loop-n-test.true, c.method_count-n-end.ensures)) (sym c.in-Some.is ∙ c.in_ok-fault.ensures)
    ∙ c.loop-n.invariant

pub loop-n-preserved : goal.loop-n-preserved
loop-n-preserved g c =
    let w = g.L.Lookups.world c.args.world.now in
    sym (fault_behind_number w c.loop-n.n w.methods (omega (arith, c.loop-n-test.true, c.method_count-n-end.ensures)) (sym c.in_default.is ∙ c.in_ok-fault.ensures))
    ∙ c.loop-n.invariant
