-- How many steps the checks may take later for what was read.
use Rattle.std.specs.Prelude.{ℕ, ◌+◌, List}
use Rattle.std.specs.List.{sum_by}
use Rattle.class_model.specs.declared.constant.Const.{Const}
use Rattle.class_checks.specs.Costs.{judging, adding}

-- for a constant
abbrev pub later : Const → ℕ
later c = judging c + adding c

-- for a pool
abbrev pub later_of_pool : List Const → ℕ
later_of_pool pool = sum_by judging pool + sum_by adding pool
