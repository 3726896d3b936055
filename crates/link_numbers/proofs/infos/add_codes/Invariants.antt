use Rattle.std.proofs.Common.{◌≡◌, ◌++◌, map, take}
use Rattle.link_model.specs.Codes.{code_of}
use Rattle.link_numbers.proofs.infos.add_codes.Given as goal

abbrev pub invariant-loop-method : goal.invariant-loop-method
invariant-loop-method l = l.codes ≡ l.fn.codes ++ map code_of (take l.method-index l.file.methods)
