use Rattle.std.proofs.Common.{◌∙◌}
use Rattle.answers.proofs.TakenLaws.{takes}
use Rattle.answers.proofs.refusals.with_line.Goals as goal

pub returns-in-Ok-clause-line : goal.returns-in-Ok-clause-line
returns-in-Ok-clause-line g c = rw (← (c.as_slice.ensures ∙ c.in-Ok.ensures.line)) (takes _ _ _ _ _ c.put_all.result c.put_all.ensures.ok c.put_all.ensures.part c.put_all.ensures.short c.put_all.ensures.cause c.put_all.ensures.kept)

pub returns-in-Err-clause-line : goal.returns-in-Err-clause-line
returns-in-Err-clause-line g c = takes _ _ _ _ _ c.put_all-in-Err.result c.put_all-in-Err.ensures.ok c.put_all-in-Err.ensures.part c.put_all-in-Err.ensures.short c.put_all-in-Err.ensures.cause c.put_all-in-Err.ensures.kept
