-- What the instructions of methods name, by their decoded codes.
use Rattle.std.specs.Prelude.{ℕ, List, Option, map}
use Rattle.class_model.specs.declared.constant.Const.{Const}
use Rattle.link_model.specs.declared.members.MethodCode.{MethodCode}
use Rattle.link_model.specs.declared.sites.Resolution.{Resolution}
use Rattle.link_model.specs.Sites.{Linking, instr_resolution}
use Rattle.link_numbers.specs.Decodings.{instrs_in}

abbrev pub resolutions_in : Linking → ℕ → List Const → Option MethodCode → List Resolution
resolutions_in l c pool code = map (instr_resolution l c pool) (instrs_in code)
