-- The definitions' view of types, states and methods.
use Rattle.std.specs.Prelude.{Bool}
use Rattle.link_model.specs.Resolutions.{meanings}
use Rattle.stack_maps.specs.declared.types.VType.{VType}
use Rattle.instruction_rows.specs.Contents.{Contents}
use Rattle.link_model.specs.World.{World}
use Rattle.verify_types.specs.Environment.{Environment, environment_of}
use Rattle.verify_instructions.specs.declared.method.Method.{Method}
use Rattle.verify_types.specs.TypeStates.{TypeState, is_this, is_new}
use Rattle.verify_instructions.specs.declared.types.Types.TheInside.{Inside}
use Rattle.verify_instructions.specs.declared.state.State.{State}
use Rattle.verify_instructions.specs.declared.state.Uninitialized.{Uninitialized}
use Rattle.verify_instructions.specs.declared.state.Uninitialized.TheVariants as objects

abbrev pub types_in : Inside → Contents VType
types_in a = record { locals = a.slots.value.locals; stack = a.slots.value.stack }

abbrev pub state_in : State → TypeState
state_in s = record { types = s.types; this_uninit = s.this_uninit }

-- whether a type is that of the object
abbrev pub is_object : Uninitialized → VType → Bool
is_object objects.This t = is_this t
is_object (objects.New pc) t = is_new pc t

-- the environment that a method has in a world
abbrev pub environment_in : World → Method → Environment
environment_in w m = environment_of w m.info.now m.code.now (meanings m.resolutions) m.catches.now
