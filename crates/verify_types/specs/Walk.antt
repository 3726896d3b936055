-- The states before the instructions of a method, from front to back (JVMS 4.10.1.6: mergedCodeIsTypeSafe): that of a frame of the
-- map where one lies, else that after the instruction before.
use Rattle.std.specs.Prelude.{ℕ, Bool, true, false, List, [], ◌∷◌, Option, Some, None, find, ◌==◌, if◌then◌else◌}
use Rattle.std.specs.Option.{option_map_or}
use Rattle.std.specs.Result.{result_ok}
use Rattle.instruction_rows.specs.Rows.{row_goes_on}
use Rattle.verify_types.specs.TypeStates.{TypeState}
use Rattle.verify_types.specs.Environment.{Instruction, MapFrame, Environment, map_at}
use Rattle.verify_types.specs.Effects.{row_of, state_after}

-- an instruction with the state before it
pub record Placed : Type 0 where
  pub instruction : Instruction
  -- None where it has none: that of the map is none, or the instruction before broke a rule
  pub state : Option TypeState
  -- the state in which the method begins, at the first instruction
  pub entry : Option TypeState
  -- whether it is the last
  pub is_last : Bool

abbrev pub standing : Environment → ℕ → Option TypeState → Option TypeState
standing env pc before = option_map_or (λ (f : MapFrame). f.state) (map_at env pc) before

-- the state that goes on after an instruction
abbrev pub behind : Environment → Instruction → Option TypeState → Option TypeState
behind env i None = None
behind env i (Some s) = if row_goes_on (row_of i) then result_ok (state_after env i s) else None

abbrev pub is_end : List Instruction → Bool
is_end [] = true
is_end (i ∷ is) = false

abbrev pub placed : Environment → Option TypeState → Option TypeState → List Instruction → List Placed
placed env entry before [] = []
placed env entry before (i ∷ is) =
    let here = standing env i.instr.pc before in
    record { instruction = i; state = here; entry = entry; is_last = is_end is } ∷ placed env None (behind env i here) is

abbrev pub walk : Environment → List Placed
walk env = placed env (Some env.first) (Some env.first) env.instructions

-- the instruction at a pc, with its state
abbrev pub placed_at : Environment → ℕ → Option Placed
placed_at env pc = find (λ (p : Placed). p.instruction.instr.pc == pc) (walk env)
