use Rattle.std.proofs.Common.{ap, sym, ◌∙◌}
use Rattle.std.specs.Prelude.{is_none}
use Rattle.std.proofs.lemmas.Bool.{and_left}
use Rattle.ref_model.specs.Ending.{ending as ending_of}
use Rattle.machine.proofs.EndingLaws.{none_from, some_from}
use Rattle.machine.proofs.endings.may_step.Goals as goal

pub returns-then-is_none : goal.returns-then-is_none
returns-then-is_none c = λ r out is.
    c.is_enabled.ensures r out is (sym (c.ending.ensures r out is) ∙ none_from c.ending.result c.is_none.result c.is_none.ensures c.if-is_none.true)

pub returns-else-is_none : goal.returns-else-is_none
returns-else-is_none c = λ r out is.
    c.if-is_none.false
    ∙ sym (and_left (is_none (ending_of r)) _
    (ap is_none (sym (c.ending.ensures r out is)) ∙ some_from c.ending.result c.is_none.result c.is_none.ensures c.if-is_none.false))
