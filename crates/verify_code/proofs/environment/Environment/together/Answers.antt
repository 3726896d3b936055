use Rattle.std.proofs.Common.{◌∙◌}
use Rattle.std.specs.Prelude.{map}
use Rattle.verify_code.specs.Guards.{guard_in}
use Rattle.verify_code.proofs.MergedLaws.{same_asked}
use Rattle.verify_code.proofs.environment.Environment.together.Goals as goal

pub returns-clause-alike : goal.returns-clause-alike
returns-clause-alike g c =
    let env = c.args.self.now in
    let hs = map guard_in c.in_ok-guards-2.guards.items in
    record { same = λ pc s. (same_asked env hs (map guard_in c.in_ok-guards.field-0.guards.items) c.in_ok-guards-2.ensures.alike).same pc s ∙ c.in_ok-guards.ensures.same pc s }
