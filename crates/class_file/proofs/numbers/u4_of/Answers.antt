use Rattle.class_file.proofs.CostLaws.{number_sized}
use Rattle.class_grammar.specs.declared.class_why.ClassWhy.TheVariants.{Short}
use Rattle.class_file.proofs.numbers.u4_of.Goals as goal

pub returns-clause-size : goal.returns-clause-size
returns-clause-size c = number_sized Short 4 c.args.bytes.now c.u4_of.result c.u4_of.ensures
