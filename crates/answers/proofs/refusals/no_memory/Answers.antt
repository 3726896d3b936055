use Rattle.answers.proofs.TakenLaws.{takes}
use Rattle.answers.proofs.refusals.no_memory.Goals as goal

pub returns-clause-line : goal.returns-clause-line
returns-clause-line g c = takes _ _ _ _ _ c.put_all.result c.put_all.ensures.ok c.put_all.ensures.part c.put_all.ensures.short c.put_all.ensures.cause c.put_all.ensures.kept
