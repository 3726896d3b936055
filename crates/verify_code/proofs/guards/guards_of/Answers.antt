use Rattle.std.proofs.Common.{refl}
use Rattle.verify_code.proofs.GuardLaws.{gather_one}
use Rattle.verify_code.proofs.guards.guards_of.Goals as goal

pub loop-row-preserved : goal.loop-row-preserved
loop-row-preserved c =
    gather_one c.args.rows.now c.loop-row.rest.now c.in-Some.behind.now c.in-Some.row.now c.args.catches.now c.loop-row.left.now c.behind_first-left.result.now c.loop-row.guards.items c.put.new.guards.items c.loop-row.last
    (record { row = c.in-Some.row.now; catch = c.first_catch.result }) c.in_ok-put.put c.loop-row.invariant c.in-Some.ensures.cases.0 refl c.first_catch.ensures c.behind_first-left.ensures c.in_ok-put.ensures
