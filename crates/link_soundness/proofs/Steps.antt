-- What an instruction names is what a step asks for.
use Rattle.std.proofs.Common.{◌≡◌, List, refl}
use Rattle.link_rules.specs.Program.{Program}
use Rattle.link_rules.specs.Faults.{Links}
use Rattle.instruction_rows.specs.declared.value.Slot.{Slot}
use Rattle.instruction_rows.specs.Rows.{Event, Row, local, constant, wide_constant, returns, invoke, event, refused, get_static, put_static, get_field, put_field, new, new_array, new_array_of, new_arrays, array_length, array_load, array_store, check_cast, instance_of, throw, monitor_enter, monitor_exit}
use Rattle.link_model.specs.declared.sites.Resolution.{Resolution}
use Rattle.link_model.specs.Infos.{methods_of}
use Rattle.link_model.specs.World.{World}
use Rattle.link_model.specs.Worlds.{world_of}
use Rattle.verify_types.specs.Effects.{row_of}
use Rattle.ref_model.specs.Memory.{Memory}
use Rattle.frame_soundness.specs.StepKinds.{IsEventResolution}
use Rattle.step_soundness.specs.MethodKinds.{HasFitNatives}
use Rattle.step_soundness.specs.Resolutions.{IsRowResolution}
use Rattle.step_soundness.proofs.Signatures.{invocations_fit}
use Rattle.link_soundness.specs.Library.{HasLibrary}
use Rattle.link_soundness.specs.Names.{AreNamed}
use Rattle.link_soundness.proofs.BuiltIns.{settled}
use Rattle.link_soundness.proofs.Named.{IsNamed, instruction_named}
use Rattle.link_soundness.proofs.Natives.{fit_natives}

-- ---- events

event_named : (w : World) (resolution : Resolution) (e : Event) (r : Memory) (stack : List Slot) → IsNamed w resolution (event e) → IsEventResolution w resolution e r stack
event_named w resolution (get_static index) r stack named = named
event_named w resolution (put_static index) r stack named = named
event_named w resolution (get_field index) r stack named = λ o class at is. named class
event_named w resolution (put_field index) r stack named = λ o class at is. named class
event_named w resolution (new index) r stack named = named
event_named w resolution (new_array primitive) r stack named = tt
event_named w resolution (new_array_of index) r stack named = tt
event_named w resolution (new_arrays index dimensions) r stack named = tt
event_named w resolution array_length r stack named = tt
event_named w resolution (array_load element) r stack named = tt
event_named w resolution (array_store element) r stack named = tt
event_named w resolution (check_cast index) r stack named = tt
event_named w resolution (instance_of index) r stack named = tt
event_named w resolution throw r stack named = tt
event_named w resolution monitor_enter r stack named = tt
event_named w resolution monitor_exit r stack named = tt

-- ---- all

row_named : (w : World) (resolution : Resolution) (row : Row) (r : Memory) (stack : List Slot) → w.methods ≡ methods_of w.program → HasFitNatives w
    → IsNamed w resolution row → IsRowResolution w resolution row r stack
row_named w resolution (local l) r stack methods natives named = tt
row_named w resolution (constant index) r stack methods natives named = tt
row_named w resolution (wide_constant index) r stack methods natives named = tt
row_named w resolution (returns kind) r stack methods natives named = tt
row_named w resolution (invoke invocation index) r stack methods natives named =
    invocations_fit w resolution invocation index r stack methods natives named
row_named w resolution (event e) r stack methods natives named = event_named w resolution e r stack named
row_named w resolution refused r stack methods natives named = tt

pub linked_code_is_named : (p : Program) → Links p → HasLibrary p → AreNamed (world_of p)
linked_code_is_named p links has = λ r f i e.
    row_named (world_of p) i.resolution (row_of i) r f.stack refl (fit_natives p links has) (instruction_named p f i links (settled p links has) e)
