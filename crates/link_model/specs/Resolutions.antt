-- What the numbers of instructions mean in a table of meanings.
use Rattle.std.specs.Prelude.{ℕ, List, get_or, map}
use Rattle.link_model.specs.declared.resolutions.Resolutions.{Resolutions}
use Rattle.link_model.specs.declared.sites.Resolution.{Resolution}
use Rattle.link_model.specs.Sites.{plain}

-- what has this number
abbrev pub numbered : List Resolution → ℕ → Resolution
numbered table n = get_or table n plain

-- what the constant of each instruction means
abbrev pub meanings : Resolutions → List Resolution
meanings a = map (numbered a.table.now) a.numbers.now
