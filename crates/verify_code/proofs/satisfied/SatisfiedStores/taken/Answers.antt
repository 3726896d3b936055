use Rattle.std.proofs.Common.{List, subst, sym}
use Rattle.std.specs.List.{All}
use Rattle.verify_code.specs.declared.satisfied.SatisfiedStore.{SatisfiedStore}
use Rattle.verify_code.specs.Satisfied.{IsTaken}
use Rattle.verify_code.proofs.satisfied.SatisfiedStores.taken.Goals as goal

pub returns : goal.returns
returns c = λ env all. c.taken_from.ensures env (subst (λ (xs : List SatisfiedStore). All (IsTaken env) xs) (sym c.deref.ensures.value) all)
