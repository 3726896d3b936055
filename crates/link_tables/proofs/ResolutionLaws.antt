-- What the instructions of a file's methods name.
use Rattle.std.proofs.Common.{◌≡◌, ℕ, List, [], ◌∷◌, map, refl, ap}
use Rattle.class_model.specs.declared.constant.Const.{Const}
use Rattle.class_model.specs.declared.member.Member.{Member}
use Rattle.link_model.specs.Codes.{code_of}
use Rattle.link_model.specs.Sites.{Linking, method_resolutions}
use Rattle.link_tables.specs.Resolutions.{resolutions_in}

pub resolutions_are : (l : Linking) (c : ℕ) (pool : List Const) (methods : List Member) → map (resolutions_in l c pool) (map code_of methods) ≡ map (method_resolutions l c pool) methods
resolutions_are l c pool [] = refl
resolutions_are l c pool (m ∷ methods) = ap (λ xs. resolutions_in l c pool (code_of m) ∷ xs) (resolutions_are l c pool methods)
