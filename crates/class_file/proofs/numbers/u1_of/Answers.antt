use Rattle.class_file.proofs.CostLaws.{number_sized}
use Rattle.class_grammar.specs.declared.class_why.ClassWhy.TheVariants.{Short}
use Rattle.class_file.proofs.numbers.u1_of.Goals as goal

pub returns-clause-size : goal.returns-clause-size
returns-clause-size c = number_sized Short 1 c.args.bytes.now c.u1_of.result c.u1_of.ensures
