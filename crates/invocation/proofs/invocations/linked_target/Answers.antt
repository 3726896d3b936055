use Rattle.std.proofs.Common.{suc, Option, sym, subst}
use Rattle.link_model.specs.declared.sites.SelectionFailure.{SelectionFailure}
use Rattle.invocation.specs.Targets.{IsLinkedTarget}
use Rattle.invocation.proofs.invocations.linked_target.Goals as goal

pub returns-in-None-clause-target : goal.returns-in-None-clause-target
returns-in-None-clause-target c = λ w named.
    let T : Option SelectionFailure → Type 0 = λ f. IsLinkedTarget w f c.args.method.number (suc c.args.method.slots) c.args.method.bound in
    subst T (sym c.in-None.is) named.bound
