use Rattle.class_file.proofs.CostLaws.{number_sized}
use Rattle.class_grammar.specs.declared.class_why.ClassWhy.TheVariants.{Short}
use Rattle.class_file.proofs.numbers.u2_of.Goals as goal

pub returns-clause-size : goal.returns-clause-size
returns-clause-size c = number_sized Short 2 c.args.bytes.now c.u2_of.result c.u2_of.ensures
