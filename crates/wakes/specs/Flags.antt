-- What contracts see of all threads' flags.
use Rattle.std.specs.Prelude.{List, Bool}

-- for each thread, by its number: whether its permit is available, and its interrupt status
pub record Flags : Type 0 where
  pub permits : List Bool
  pub interrupts : List Bool
