use Rattle.program_state.proofs.DueLaws.{cleared_all, cleared_more}
use Rattle.program_state.proofs.timers.clear_keys.Goals as goal

pub loop-t-preserved : goal.loop-t-preserved
loop-t-preserved c =
    cleared_more c.args.keys.now.items c.loop-t.keys.items c.clear_key.new.keys.items c.args.threads.now c.loop-t.t-index c.loop-t-test.true c.loop-t.invariant c.clear_key.ensures

pub returns : goal.returns
returns c = cleared_all c.args.keys.now.items c.loop-t.keys.items c.args.threads.now c.loop-t.t-index c.loop-t-test.false c.loop-t.invariant
