use Rattle.std.proofs.Common.{sym, ◌∙◌}
use Rattle.verify_code.proofs.BetweenLaws.{judged_of_both}
use Rattle.verify_code.proofs.satisfied.judged_on.Goals as goal

pub returns : goal.returns
returns c = λ env s h. judged_of_both env s c.args.twice c.in-Some.twice c.args.pc c.min.result c.in-Some.is c.min.ensures h (sym c.holds_at.ensures ∙ c.if-not-holds_at.false) (sym c.holds_at-2.ensures ∙ c.if-not-holds_at-2.false)
