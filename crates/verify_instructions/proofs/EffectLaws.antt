-- What an instruction does to a state, by the kind of its row.
use Rattle.std.proofs.Common.{◌≡◌, ℕ, true, refl}
use Rattle.std.specs.Prelude.{Ok}
use Rattle.instruction_rows.specs.Results.{◌then◌}
use Rattle.instruction_rows.specs.Rows.{Row, local, constant, wide_constant, returns, invoke, event, refused, get_static, put_static, get_field, put_field, new, new_array, new_array_of, new_arrays, array_length, array_load, array_store, check_cast, instance_of, throw, monitor_enter, monitor_exit}
use Rattle.link_model.specs.declared.sites.Resolution.{Resolution}
use Rattle.verify_types.specs.TypeStates.{TypeState, with_stack, with_types}
use Rattle.verify_types.specs.Environment.{Environment}
use Rattle.verify_types.specs.Effects.{row_state}
use Rattle.verify_instructions.specs.RowKinds.{is_local, is_stack_event}
use Rattle.verify_instructions.specs.Rows.{event_stack, local_types}

pub local_state : (env : Environment) (pc : ℕ) (resolution : Resolution) (r : Row) (s : TypeState) → is_local r ≡ true
    → (local_types r s.types then λ types. Ok (with_types s types)) ≡ row_state env pc resolution r s
local_state env pc resolution (local r) s e = refl
local_state env pc resolution (constant index) s e = absurd cc
local_state env pc resolution (wide_constant index) s e = absurd cc
local_state env pc resolution (returns kind) s e = absurd cc
local_state env pc resolution (invoke invocation index) s e = absurd cc
local_state env pc resolution (event x) s e = absurd cc
local_state env pc resolution refused s e = absurd cc

pub event_state : (env : Environment) (pc : ℕ) (resolution : Resolution) (r : Row) (s : TypeState) → is_stack_event r ≡ true
    → (event_stack env.world env.method.class pc resolution r s.types.stack then λ stack. Ok (with_stack s stack)) ≡ row_state env pc resolution r s
event_state env pc resolution (event (get_static index)) s e = refl
event_state env pc resolution (event (put_static index)) s e = refl
event_state env pc resolution (event (get_field index)) s e = refl
event_state env pc resolution (event (put_field index)) s e = refl
event_state env pc resolution (event (new index)) s e = absurd cc
event_state env pc resolution (event (new_array primitive)) s e = refl
event_state env pc resolution (event (new_array_of index)) s e = refl
event_state env pc resolution (event (new_arrays index lengths)) s e = refl
event_state env pc resolution (event array_length) s e = refl
event_state env pc resolution (event (array_load element)) s e = refl
event_state env pc resolution (event (array_store element)) s e = refl
event_state env pc resolution (event (check_cast index)) s e = refl
event_state env pc resolution (event (instance_of index)) s e = refl
event_state env pc resolution (event throw) s e = refl
event_state env pc resolution (event monitor_enter) s e = refl
event_state env pc resolution (event monitor_exit) s e = refl
event_state env pc resolution (local r) s e = absurd cc
event_state env pc resolution (constant index) s e = absurd cc
event_state env pc resolution (wide_constant index) s e = absurd cc
event_state env pc resolution (returns kind) s e = absurd cc
event_state env pc resolution (invoke invocation index) s e = absurd cc
event_state env pc resolution refused s e = absurd cc
