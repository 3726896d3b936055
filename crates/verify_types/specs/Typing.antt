-- What a method that is well typed gives to the machine: with each instruction a state, so that what the instruction leaves is
-- known wherever it goes.
use Rattle.std.specs.Prelude.{◌≡◌, ℕ, ℤ, true, Some, Ok, slice_get, ◌≤◌, length}
use Rattle.std.specs.List.{IsAmong}
use Rattle.instruction_rows.specs.declared.value.Slot.{Slot}
use Rattle.instruction_rows.specs.Contents.{Contents}
use Rattle.instruction_rows.specs.Pcs.{pc_of}
use Rattle.instruction_rows.specs.Rows.{targets_of_row, row_goes_on}
use Rattle.instruction_rows.specs.Soundness.{HasKinds}
use Rattle.link_model.specs.World.{World}
use Rattle.verify_types.specs.TypeStates.{TypeState}
use Rattle.verify_types.specs.Environment.{Instruction, Handler, Environment, environment}
use Rattle.verify_types.specs.Effects.{row_of, state_after}
use Rattle.verify_types.specs.Calls.{covers}
use Rattle.verify_types.specs.Handlers.{caught, is_returned, is_finished}
use Rattle.verify_types.specs.Walk.{Placed, placed_at}

-- An instruction is at the pc, and slots that have the kinds of this state have those of the state before it.
pub record Leads (env : Environment) (s : TypeState) (pc : ℕ) : Type 0 where
  pub place : Placed
  pub there : placed_at env pc ≡ Some place
  pub state : TypeState
  pub has : place.state ≡ Some state
  pub keeps : (c : Contents Slot) → HasKinds s.types c → HasKinds state.types c

-- the same for a target, which is a pc
pub record LeadsTo (env : Environment) (s : TypeState) (target : ℤ) : Type 0 where
  pub pc : ℕ
  pub is : pc_of target ≡ Some pc
  pub leads : Leads env s pc

-- An instruction keeps to the rules in a state.
pub record IsFine (env : Environment) (i : Instruction) (s : TypeState) : Type 0 where
  pub after : TypeState
  pub is : state_after env i s ≡ Ok after
  pub on : row_goes_on (row_of i) ≡ true → Leads env after i.instr.next
  pub to : (target : ℤ) → IsAmong (targets_of_row (row_of i)) target → LeadsTo env after target
  pub before_shallow : length s.types.stack ≤ env.max_stack
  pub after_shallow : length after.types.stack ≤ env.max_stack
  pub locals : length s.types.locals ≤ env.max_locals
  pub handled : (k : ℕ) (h : Handler) → slice_get env.handlers k ≡ Some h → covers i.instr.pc h ≡ true
      → Leads env (caught env.world h s) h.row.handler
  pub returned : is_returned env (row_of i) s ≡ true
  pub finished : is_finished (row_of i) s ≡ true

-- The method begins in its first state, and each of its instructions has a state and keeps to the rules in it.
pub record IsTypedMethod (env : Environment) : Type 0 where
  pub start : Leads env env.first 0
  pub each : (pc : ℕ) (place : Placed) → placed_at env pc ≡ Some place
      → (s : TypeState) × (place.state ≡ Some s) × IsFine env place.instruction s

-- Each method with code is typed.
abbrev pub AreTyped : World → Type 0
AreTyped w = (n : ℕ) (env : Environment) → environment w n ≡ Some env → IsTypedMethod env
