-- The tables of a program that is ready to run.
use Rattle.std.specs.Prelude.{◌≡◌, length, map}
use Rattle.link_resolution.specs.Tables.{tabulate}
use Rattle.link_model.specs.World.{World}
use Rattle.ref_model.specs.Members.{field_place, native_at, new_values}
use Rattle.ref_model.specs.Starting.{run_method as method_run}
use Rattle.invocation.specs.Places.{is_open}
use Rattle.runtime_program.specs.Arrays.{inner_class}
use Rattle.runtime_program.specs.Exceptions.{exceptions_of}
use Rattle.runtime_program.specs.StaticPlaces.{AreStaticPlaces}
use Rattle.runtime_program.specs.declared.tables.ReadyTables.{ReadyTables}

pub record HasTables (w : World) (t : ReadyTables) : Type 0 where
  pub natives : t.natives.items ≡ tabulate (native_at w) (length w.methods)
  pub open_methods : t.open_methods.items ≡ tabulate (is_open w) (length w.methods)
  pub new_values : t.new_values.items ≡ tabulate (new_values w) (length w.program.classes)
  pub static_places : AreStaticPlaces w t.static_places
  pub instance_places : t.instance_places.items ≡ tabulate (field_place w) (length w.fields)
  pub inner_classes : t.inner_classes.items ≡ map (inner_class w) w.arrays
  pub exceptions : t.exceptions ≡ exceptions_of w
  pub run_method : t.run_method ≡ method_run w
