use Rattle.invocation.proofs.returning.leave_with.Goals as goal

pub returns-then-is_left_openly-clause-left : goal.returns-then-is_left_openly-clause-left
returns-then-is_left_openly-clause-left g c = c.leave_openly.ensures c.args.kind
