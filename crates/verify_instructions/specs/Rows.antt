-- What rows do to types, a part of them at a time.
use Rattle.std.specs.Prelude.{ℕ, List, Result, Ok}
use Rattle.stack_maps.specs.declared.types.VType.{VType}
use Rattle.instruction_rows.specs.declared.row_why.RowWhy.{RowWhy}
use Rattle.instruction_rows.specs.Contents.{Contents}
use Rattle.instruction_rows.specs.Rows.{Row, local, event}
use Rattle.instruction_rows.specs.TypeEffect.{typed}
use Rattle.link_model.specs.declared.sites.Resolution.{Resolution}
use Rattle.link_model.specs.World.{World}
use Rattle.verify_types.specs.Objects.{stack_after}

-- what a row of slots alone does; the others leave the types here
abbrev pub local_types : Row → Contents VType → Result (Contents VType) RowWhy
local_types (local r) c = typed r c
local_types r c = Ok c

-- What an event that isn't `new` does to the operand stack; the other rows leave it here.
abbrev pub event_stack : World → ℕ → ℕ → Resolution → Row → List VType → Result (List VType) RowWhy
event_stack w own pc resolution (event e) stack = stack_after w own pc resolution e stack
event_stack w own pc resolution r stack = Ok stack
