use Rattle.class_file.proofs.CostLaws.{run_sized, run_in_front}
use Rattle.class_grammar.specs.declared.class_why.ClassWhy.TheVariants.{Short}
use Rattle.class_file.proofs.numbers.bytes_of.Goals as goal

pub returns-clause-size : goal.returns-clause-size
returns-clause-size c = run_sized Short c.args.count c.args.bytes.now c.bytes_of.result c.bytes_of.ensures

pub returns-clause-front : goal.returns-clause-front
returns-clause-front c = run_in_front Short c.args.count c.args.bytes.now c.bytes_of.result c.bytes_of.ensures
