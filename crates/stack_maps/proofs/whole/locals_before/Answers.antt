use Rattle.std.proofs.Common.{◌∙◌}
use Rattle.stack_maps.proofs.LoopLaws.{last_found}
use Rattle.stack_maps.proofs.whole.locals_before.Goals as goal

pub returns-in-Some : goal.returns-in-Some
returns-in-Some c = c.deref.ensures ∙ last_found c.args.first.now c.args.frames.now c.in-Some.field-0.now c.in-Some.ensures.value
