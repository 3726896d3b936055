use Rattle.std.proofs.Common.{◌≡◌, ◌++◌, map, take}
use Rattle.link_model.specs.Infos.{method_info}
use Rattle.link_numbers.proofs.infos.add_methods.Given as goal

abbrev pub invariant-loop-method : goal.invariant-loop-method
invariant-loop-method l = l.methods.items ≡ l.fn.methods.items ++ map (method_info l.class l.file.pool) (take l.method-index l.file.methods)
