use Rattle.std.proofs.Common.{sym, ◌∙◌}
use Rattle.machine.proofs.EndingLaws.{none_from}
use Rattle.machine.proofs.entries.goes_on.Goals as goal

pub returns : goal.returns
returns c = λ yes r out is. sym (c.ending.ensures r out is) ∙ none_from c.ending.result c.is_none.result c.is_none.ensures yes
