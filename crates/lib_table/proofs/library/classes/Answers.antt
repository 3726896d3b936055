use Rattle.std.proofs.Common.{All, arith, subst, sym}
use Rattle.std.proofs.lemmas.Grind.{common_steps}
use Rattle.lib_table.specs.Spelled.{IsSpelled}
use Rattle.lib_table.proofs.SpelledClasses.{library_spelled}
use Rattle.lib_table.proofs.library.classes.Goals as goal

pub returns-clause-exact : goal.returns-clause-exact
returns-clause-exact c = grind (arith, common_steps)

pub returns-clause-spelled : goal.returns-clause-spelled
returns-clause-spelled c = subst (All IsSpelled) (sym (returns-clause-exact c)) library_spelled
