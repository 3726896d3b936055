use Rattle.link_checks.proofs.DecodedLaws.{whole}
use Rattle.link_checks.proofs.code.front_of.Goals as goal

pub returns-in-Ok-clause-front : goal.returns-in-Ok-clause-front
returns-in-Ok-clause-front c = whole c.args.code.now c.in-Ok.instrs.items c.in-Ok.ensures.found
