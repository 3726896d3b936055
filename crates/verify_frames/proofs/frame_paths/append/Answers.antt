use Rattle.verify_frames.proofs.FramePathLaws.{put_none, put_one, put_all}
use Rattle.verify_frames.proofs.frame_paths.append.Goals as goal

pub loop-t-init : goal.loop-t-init
loop-t-init g c = put_none (g.L.Lookups.world c.args.w.now) c.args.class c.args.paths.now c.args.from c.args.types.now

pub loop-t-preserved : goal.loop-t-preserved
loop-t-preserved g c =
    put_one (g.L.Lookups.world c.args.w.now) c.args.class c.args.paths.now c.args.from c.args.types.now c.loop-t.paths c.push.new.self c.loop-t.node c.in_ok-put.put c.resolve-item.result c.in-Some.t.now c.loop-t.rest.now
    c.in-Some.behind.now c.loop-t.invariant c.in-Some.ensures.cases.0 c.resolve-item.ensures c.in_ok-put.ensures.grown c.in_ok-put.ensures.node

pub returns-clause-grown : goal.returns-clause-grown
returns-clause-grown g c = c.loop-t.invariant.grown

pub returns-clause-node : goal.returns-clause-node
returns-clause-node g c = λ p h.
    put_all (g.L.Lookups.world c.args.w.now) c.args.class c.args.paths.now c.args.from c.args.types.now c.loop-t.paths c.loop-t.node c.loop-t.rest.now c.loop-t.invariant c.in_default.ensures.cases p h
