use Rattle.std.proofs.Common.{◌∙◌}
use Rattle.type_paths.proofs.paths.Paths.root.Goals as goal

pub returns : goal.returns
returns c = record { is_node = c.node.ensures.known; is = c.node.ensures.path ∙ c.node.ensures.first }
