use Rattle.descriptors.proofs.FrontKind.{brackets_found, brackets_here, some_is}
use Rattle.descriptors.proofs.fields.brackets_in.Goals as goal

pub unwrap-requires : goal.unwrap-requires
unwrap-requires c = let found = brackets_found c.args.units.now _ c.requires c.first_other.ensures in some_is _ found.0 found.1

pub returns-clause-few : goal.returns-clause-few
returns-clause-few c = (brackets_here c.args.units.now _ _ c.requires c.first_other.ensures c.unwrap.ensures).few

pub returns-clause-brackets : goal.returns-clause-brackets
returns-clause-brackets c = (brackets_here c.args.units.now _ _ c.requires c.first_other.ensures c.unwrap.ensures).brackets

pub returns-clause-element : goal.returns-clause-element
returns-clause-element c = (brackets_here c.args.units.now _ _ c.requires c.first_other.ensures c.unwrap.ensures).element
