use Rattle.gen_load.proofs.Making.{not_refused}
use Rattle.gen_load.proofs.classes.assembled.Goals as goal

pub unreachable-requires : goal.unreachable-requires
unreachable-requires c =
    not_refused c.args.text.now c.assemble.result c.in-Err-Bad.field-0 c.in-Err-Bad.field-0-0 c.in-Err-Bad.is c.in-Err-Bad.field-0-is c.assemble.ensures c.requires
