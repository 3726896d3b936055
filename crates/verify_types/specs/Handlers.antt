-- What exception handlers and returns ask (JVMS 4.10.1.6: instructionSatisfiesHandlers; 4.10.1.9: the return instructions).
use Rattle.std.specs.Prelude.{ℕ, Bool, true, false, not, List, [], ◌∷◌, Option, Some, None, Result, Ok, Err, is_none, ◌&&◌, ◌||◌}
use Rattle.std.specs.Option.{option_map_or}
use Rattle.std.specs.List.{list_all}
use Rattle.stack_maps.specs.declared.types.VType.{VType}
use Rattle.instruction_rows.specs.declared.row_why.RowWhy.{RowWhy}
use Rattle.instruction_rows.specs.Rows.{Row, returns}
use Rattle.instruction_rows.specs.TypeEffect.{type_popped}
use Rattle.link_model.specs.World.{World, class_type}
use Rattle.verify_types.specs.ClassTypes.{throwable_type, type_of_kind}
use Rattle.verify_types.specs.Assignability.{assignable}
use Rattle.verify_types.specs.TypeStates.{TypeState, with_stack, fits}
use Rattle.verify_types.specs.Environment.{Handler, MapFrame, Environment, map_at}
use Rattle.verify_types.specs.Calls.{covers}

-- ---- frames of the map

-- Whether a state fits a frame of the map. A frame that names a constant that is no class isn't judged here: it is refused where
-- it lies.
abbrev pub fits_frame : Environment → TypeState → MapFrame → Bool
fits_frame env s f = option_map_or (fits env.world s) f.state true

-- ---- exception handlers

-- what a handler catches
abbrev pub caught_type : World → Option ℕ → VType
caught_type w catch = option_map_or (class_type w) catch (throwable_type w)

-- the state at a handler: the local variables before the instruction that throws, and only the exception on the stack
abbrev pub caught : World → Handler → TypeState → TypeState
caught w h s = with_stack s (caught_type w h.catch ∷ [])

-- whether the handler catches exceptions, and the state at it fits a frame of the map
abbrev pub is_satisfied : Environment → TypeState → Handler → Bool
is_satisfied env s h =
    assignable env.world (caught_type env.world h.catch) (throwable_type env.world)
    && option_map_or (fits_frame env (caught env.world h s)) (map_at env h.row.handler) false

-- whether all handlers of the instruction at the pc are
abbrev pub are_satisfied : Environment → ℕ → TypeState → Bool
are_satisfied env pc s = list_all (λ h. not (covers pc h) || is_satisfied env s h) env.handlers

-- ---- returns

-- whether the value on top, if it is there, is of the method's result
abbrev pub is_result : Environment → Result (VType × List VType) RowWhy → Bool
is_result env (Err why) = true
is_result env (Ok x) =
    option_map_or (λ kind. assignable env.world x.0 (type_of_kind env.world kind)) env.method.signature.result false

abbrev pub is_returned : Environment → Row → TypeState → Bool
is_returned env (returns (Some k)) s = is_result env (type_popped k s.types.stack)
is_returned env (returns None) s = is_none env.method.signature.result
is_returned env r s = true

-- A constructor returns after it has called another one.
abbrev pub is_finished : Row → TypeState → Bool
is_finished (returns kind) s = not s.this_uninit
is_finished r s = true
