use Rattle.type_paths.proofs.PathLaws.{above_itself, above_top, under, under_none}
use Rattle.type_paths.proofs.paths.Paths.below.Goals as goal

pub returns-in-Some-clause-node : goal.returns-in-Some-clause-node
returns-in-Some-clause-node c = λ p h. under c.args.self.now c.args.n c.in-Some.top p c.in-Some.ensures h

pub returns-in-Some-clause-above : goal.returns-in-Some-clause-above
returns-in-Some-clause-above c = above_top c.args.self.now c.args.n c.in-Some.top c.in-Some.ensures

pub returns-in-None-clause-node : goal.returns-in-None-clause-node
returns-in-None-clause-node c = λ p h. under_none c.args.self.now c.args.n p c.in-None.ensures h

pub returns-in-None-clause-above : goal.returns-in-None-clause-above
returns-in-None-clause-above c = above_itself c.args.self.now c.args.n
