use Rattle.std.proofs.Common.{◌≡◌, ◌++◌, map, take}
use Rattle.link_tables.specs.Linkings.{linking_in}
use Rattle.link_model.specs.Sites.{method_catches}
use Rattle.link_tables.proofs.resolutions.add_catches.Given as goal

abbrev pub invariant-loop-method : goal.invariant-loop-method
invariant-loop-method l = l.catches.items ≡ l.fn.catches.items ++ map (method_catches (linking_in l.l) l.file.pool) (take l.method-index l.file.methods)
