use Rattle.step_soundness.proofs.Signatures.{selection_fits, invocations_fit}
use Rattle.step_soundness.proofs.selections_fit.Goals as goal

pub returns-clause-selected : goal.returns-clause-selected
returns-clause-selected c = λ w resolution invocation m class methods named fits.
    selection_fits w resolution invocation m class methods named fits

pub returns-clause-invocations : goal.returns-clause-invocations
returns-clause-invocations c = λ w resolution invocation index r stack methods fit kind.
    invocations_fit w resolution invocation index r stack methods fit kind
