-- How many steps a text takes in the checks.
use Rattle.std.specs.Prelude.{ℕ, ◌+◌, ◌*◌, length}
use Rattle.std.specs.List.{sum_by}
use Rattle.class_model.specs.declared.constant.Const.{Const}
use Rattle.class_model.specs.declared.constant.Const.TheVariants.{Utf8}
use Rattle.class_model.specs.declared.class_file.ClassFile.{ClassFile}

-- to find its roles: at most two goes over its units, and a comparison with a name that has angle brackets
abbrev pub judging : Const → ℕ
judging (Utf8 units) = 2 * length units + 8
judging c = 0

-- to add up its size
abbrev pub adding : Const → ℕ
adding (Utf8 units) = length units
adding c = 0

-- the checks of a whole file: the texts, and a comparison with the name of Object
abbrev pub checking : ClassFile → ℕ
checking f = sum_by judging f.pool + 16 + sum_by adding f.pool
