use Rattle.lib_table.proofs.SpelledClasses.{library_spelled}
use Rattle.lib_table.proofs.laws.library_is_spelled.Goals as goal

pub returns : goal.returns
returns c = library_spelled
