use Rattle.std.proofs.Common.{Bool, subst}
use Rattle.std.specs.Prelude.{MatchBool}
use Rattle.verify_code.specs.Satisfied.{IsOf}
use Rattle.verify_code.proofs.BetweenLaws.{taken_one}
use Rattle.verify_code.proofs.satisfied.taken_from.Goals as goal

pub returns-then-is_of : goal.returns-then-is_of
returns-then-is_of c = λ env all.
    taken_one env c.store_at.result c.in-Some.store c.args.local c.args.around c.in-Some.is (c.store_at.ensures env all)
    (subst (λ (b : Bool). MatchBool b (IsOf c.in-Some.store c.args.local c.args.around) (Unit {0})) c.if-is_of.true c.is_of.ensures)
