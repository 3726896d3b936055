use Rattle.class_file.proofs.CostLaws.{number_sized}
use Rattle.class_grammar.specs.declared.class_why.ClassWhy.TheVariants.{Short}
use Rattle.class_file.proofs.numbers.u8_of.Goals as goal

pub returns-clause-size : goal.returns-clause-size
returns-clause-size c = number_sized Short 8 c.args.bytes.now c.u8_of.result c.u8_of.ensures
