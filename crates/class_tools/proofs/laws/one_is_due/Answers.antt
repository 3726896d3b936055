use Rattle.class_tools.specs.Due.{IsAssembly, IsListing}
use Rattle.class_tools.specs.OneDue.{one_assembly, one_listing}
use Rattle.class_tools.proofs.ExactLaws.{one_due}
use Rattle.class_tools.proofs.laws.one_is_due.Goals as goal

pub returns-clause-assembly : goal.returns-clause-assembly
returns-clause-assembly c = one_due IsAssembly one_assembly

pub returns-clause-listing : goal.returns-clause-listing
returns-clause-listing c = one_due IsListing one_listing
