-- Handlers that ask the same, taken together.
use Rattle.std.specs.Prelude.{◌≡◌, ℕ, Bool, true, not, List, [], ◌∷◌, Some, ◌||◌}
use Rattle.std.specs.List.{list_all}
use Rattle.verify_types.specs.Assignability.{assignable}
use Rattle.verify_types.specs.Calls.{covers}
use Rattle.verify_types.specs.ClassTypes.{throwable_type}
use Rattle.verify_types.specs.Environment.{Environment, Handler, MapFrame, map_at}
use Rattle.verify_types.specs.Handlers.{caught_type, is_satisfied}
use Rattle.verify_types.specs.TypeStates.{TypeState, all_assignable}
use Rattle.verify_code.specs.declared.guards.Caught.{Caught}
use Rattle.verify_code.specs.declared.guards.Guard.{Guard}
use Rattle.verify_code.specs.Handlers.{catches_at}

-- whether a row asks nothing at a pc, or its handler is satisfied
abbrev pub is_kept : Environment → ℕ → TypeState → Handler → Bool
is_kept env pc s h = not (covers pc h) || is_satisfied env s h

-- these handlers are satisfied where those are, at each pc
pub record AskSame (env : Environment) (hs ks : List Handler) : Type 0 where
  pub same : (pc : ℕ) (s : TypeState) → list_all (is_kept env pc s) hs ≡ list_all (is_kept env pc s) ks

-- a handler catches exceptions, and its frame takes them on the operand stack
pub record AsksLocals (env : Environment) (c : Caught) : Type 0 where
  pub frame : MapFrame
  pub state : TypeState
  pub at : map_at env c.handler ≡ Some frame
  pub is : frame.state ≡ Some state
  pub caught : assignable env.world (caught_type env.world c.catch) (throwable_type env.world) ≡ true
  pub stack : all_assignable env.world (caught_type env.world c.catch ∷ []) state.types.stack ≡ true

-- two handlers are satisfied by the same states
pub record AreAlike (env : Environment) (a b : Caught) : Type 0 where
  pub same : (s : TypeState) → catches_at env s a.handler a.catch ≡ catches_at env s b.handler b.catch

-- a row with the handler of another, and with what that catches
pub record IsNamed (g other now : Guard) : Type 0 where
  pub start : now.row.start ≡ g.row.start
  pub end : now.row.end ≡ g.row.end
  pub handler : now.row.handler ≡ other.row.handler
  pub catch : now.catch ≡ other.catch
