use Rattle.type_paths.proofs.PathLaws.{above_itself, above_twice}
use Rattle.type_paths.proofs.paths.Paths.common.Goals as goal

pub loop-init : goal.loop-init
loop-init c = (above_itself c.args.self.now c.args.one, above_itself c.args.self.now c.args.other)

pub loop-preserved : goal.loop-preserved
loop-preserved c = (
  above_twice c.args.self.now c.args.one c.loop.a c.lowered-lower.result.0 c.loop.invariant.0 c.lowered-lower.ensures.0,
  above_twice c.args.self.now c.args.other c.loop.b c.lowered-lower.result.1 c.loop.invariant.1 c.lowered-lower.ensures.1,
)
