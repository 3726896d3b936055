-- What an instruction that isn't local does (JVMS 6.5).
use Rattle.std.specs.Prelude.{ℕ, List, Option, Some, None, if◌then◌else◌}
use Rattle.items.specs.Options.{◌>>=◌}
use Rattle.opcodes.specs.declared.op.ValueKind.TheVariants as kinds
use Rattle.instruction_rows.specs.declared.value.Slot.{Slot}
use Rattle.instruction_rows.specs.Rows.{Row, LocalRow, Event, local, constant, wide_constant, returns, invoke, event, refused, get_static, put_static, get_field, put_field, new, new_array, new_array_of, new_arrays, array_length, array_load, array_store, check_cast, instance_of, throw, monitor_enter, monitor_exit}
use Rattle.instruction_rows.specs.SlotEffect.{popped, divides_by_zero}
use Rattle.link_model.specs.declared.sites.Resolution.{Resolution}
use Rattle.link_model.specs.World.{World}
use Rattle.verify_types.specs.Environment.{Instruction}
use Rattle.state_model.specs.Frames.{Frame}
use Rattle.ref_model.specs.declared.exception.Exception.TheVariants as exceptions
use Rattle.ref_model.specs.Memory.{Memory}
use Rattle.ref_model.specs.Requests.{Request, enters, exits}
use Rattle.ref_model.specs.Effects.{Effect, throws, asks, not_null}
use Rattle.ref_model.specs.Frames.{contents}
use Rattle.ref_model.specs.Fields.{static_gotten, static_put, field_gotten, field_put}
use Rattle.ref_model.specs.Arrays.{array_made, arrays_made, length_gotten, array_loaded, array_stored}
use Rattle.ref_model.specs.Instances.{object_made, object_cast, object_judged, object_thrown}
use Rattle.ref_model.specs.Calls.{invoked}

-- monitorenter and monitorexit ask for the monitor of an object, which has the object's number
abbrev pub monitor_asked : (ℕ → Request) → List Slot → Option Effect
monitor_asked q stack = popped kinds.Reference stack >>= λ x. not_null x.0 (λ o. Some (asks (q o) x.1))

-- events: instructions that aren't local
abbrev pub event_effect : World → Resolution → Event → Memory → List Slot → Option Effect
event_effect w resolution (get_static index) r stack = static_gotten w resolution r stack
event_effect w resolution (put_static index) r stack = static_put w resolution r stack
event_effect w resolution (get_field index) r stack = field_gotten w resolution r stack
event_effect w resolution (put_field index) r stack = field_put w resolution r stack
event_effect w resolution (new index) r stack = object_made w resolution r stack
event_effect w resolution (new_array primitive) r stack = array_made w resolution r stack
event_effect w resolution (new_array_of index) r stack = array_made w resolution r stack
event_effect w resolution (new_arrays index dimensions) r stack = arrays_made w dimensions resolution r stack
event_effect w resolution array_length r stack = length_gotten w r stack
event_effect w resolution (array_load element) r stack = array_loaded w element r stack
event_effect w resolution (array_store element) r stack = array_stored w element r stack
event_effect w resolution (check_cast index) r stack = object_cast w resolution r stack
event_effect w resolution (instance_of index) r stack = object_judged w resolution r stack
event_effect w resolution throw r stack = object_thrown stack
event_effect w resolution monitor_enter r stack = monitor_asked enters stack
event_effect w resolution monitor_exit r stack = monitor_asked exits stack

-- idiv, irem, ldiv and lrem by 0
abbrev pub division_effect : LocalRow → Frame → Option Effect
division_effect act f = if divides_by_zero act (contents f) then Some (throws exceptions.ArithmeticException) else None

-- what the instruction does in a thread of so many frames
abbrev pub row_effect : World → Instruction → Row → Memory → ℕ → Frame → Option Effect
row_effect w i (local act) r depth f = division_effect act f
row_effect w i (constant index) r depth f = None
row_effect w i (wide_constant index) r depth f = None
row_effect w i (returns kind) r depth f = None
row_effect w i (invoke invocation index) r depth f = invoked w i.resolution invocation r depth f.stack
row_effect w i (event e) r depth f = event_effect w i.resolution e r f.stack
row_effect w i refused r depth f = None
