-- How many static fields come before each field.
use Rattle.std.specs.Prelude.{◌≡◌, length}
use Rattle.link_resolution.specs.Tables.{tabulate}
use Rattle.link_model.specs.World.{World}
use Rattle.ref_model.specs.Members.{static_place}
use Rattle.runtime_program.specs.declared.static_places.StaticPlaces.{StaticPlaces}

pub record AreStaticPlaces (w : World) (p : StaticPlaces) : Type 0 where
  pub places : p.places.items ≡ tabulate (static_place w) (length w.fields)
  pub count : p.count ≡ static_place w (length w.fields)
