use Rattle.type_paths.proofs.PathLaws.{above_itself}
use Rattle.type_paths.proofs.paths.Paths.lowered.Goals as goal

pub returns-then-a-b : goal.returns-then-a-b
returns-then-a-b c = (c.below.ensures.above, above_itself c.args.self.now c.args.b)

pub returns-else-a-b : goal.returns-else-a-b
returns-else-a-b c = (above_itself c.args.self.now c.args.a, c.below-else-a-b.ensures.above)
