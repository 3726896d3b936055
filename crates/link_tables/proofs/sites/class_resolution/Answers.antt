use Rattle.std.proofs.Common.{sym, ap}
use Rattle.link_model.specs.Sites.{class_resolution}
use Rattle.link_tables.proofs.sites.class_resolution.Goals as goal

pub returns-in-Some : goal.returns-in-Some
returns-in-Some c = sym (ap class_resolution c.in-Some.is)

pub returns-in-None : goal.returns-in-None
returns-in-None c = sym (ap class_resolution c.in-None.is)
