use Rattle.std.proofs.lemmas.List.Elements.{filter-append}
use Rattle.history.proofs.laws.java_joins.Goals as goal

pub returns : goal.returns
returns c front back = filter-append _ front back
