use Rattle.class_grammar.specs.Layout.{class_file}
use Rattle.class_tools.proofs.assembling.written.Goals as goal

pub write-requires : goal.write-requires
write-requires c = (class_file c.args.class.now, c.assembled_is_spelled.ensures c.requires.0 c.args.class.now c.requires.1)
