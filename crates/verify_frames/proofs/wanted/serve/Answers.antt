use Rattle.std.proofs.Common.{Bool, subst}
use Rattle.std.specs.Prelude.{MatchBool, [], ◌∷◌}
use Rattle.verify_frames.specs.Wanted.{Serves}
use Rattle.verify_frames.proofs.WantedLaws.{serves_all}
use Rattle.verify_frames.proofs.wanted.serve.Goals as goal

pub returns-then-is_the_type : goal.returns-then-is_the_type
returns-then-is_the_type c =
    let want = c.in-Some.want.now in
    serves_all c.args.sets.now c.args.wants.now c.loop-want.rest.now c.in-Some.behind.now want c.args.item c.args.pcs.now c.loop-want.invariant c.in-Some.ensures.cases.0
    (subst (λ (b : Bool). MatchBool b (Serves c.args.sets.now (want ∷ []) c.args.item c.args.pcs.now) (Unit {0})) c.if-is_the_type.true c.is_the_type.ensures)
