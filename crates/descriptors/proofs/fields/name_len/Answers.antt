use Rattle.descriptors.proofs.FrontKind.{name_found, name_here, some_is}
use Rattle.descriptors.proofs.fields.name_len.Goals as goal

pub unwrap-requires : goal.unwrap-requires
unwrap-requires c = let found = name_found c.args.units.now _ c.requires c.first_same.ensures in some_is _ found.0 found.1

pub returns-clause-name : goal.returns-clause-name
returns-clause-name c = (name_here c.args.units.now _ _ c.requires c.first_same.ensures c.unwrap.ensures).name

pub returns-clause-end : goal.returns-clause-end
returns-clause-end c = (name_here c.args.units.now _ _ c.requires c.first_same.ensures c.unwrap.ensures).end
