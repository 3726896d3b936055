-- What a run is given.
use Rattle.std.specs.Prelude.{ℕ}
use Rattle.link_model.specs.World.{World}
use Rattle.ref_model.specs.declared.limits.Limits.{Limits}

-- the linked program, the number of its main method, and the limits of the run
pub record Setting : Type 0 where
  pub world : World
  pub main : ℕ
  pub limits : Limits
