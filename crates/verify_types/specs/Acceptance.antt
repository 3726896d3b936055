-- A well typed program as a relation for each instruction, without an order of rules (JVMS 4.10.1).
use Rattle.std.specs.Prelude.{◌≡◌, ℕ, true, false, [], Some, Ok, ◌&&◌}
use Rattle.std.specs.List.{list_all}
use Rattle.items.specs.First.{Each}
use Rattle.instruction_rows.specs.Rows.{targets_of_row, row_goes_on}
use Rattle.link_model.specs.World.{World}
use Rattle.verify_types.specs.TypeStates.{TypeState}
use Rattle.verify_types.specs.Environment.{Environment, environment}
use Rattle.verify_types.specs.Effects.{row_of, state_after}
use Rattle.verify_types.specs.Handlers.{are_satisfied, is_returned, is_finished}
use Rattle.verify_types.specs.Walk.{Placed, walk}
use Rattle.verify_types.specs.Faults.{is_target, entry_fits, result_fits, is_shallow, has_locals, stray_frames}

-- ---- a method

-- An instruction keeps to every rule, and no frame of the map lies between it and the next.
pub record KeepsRules (env : Environment) (p : Placed) : Type 0 where
  pub state : TypeState
  pub has : p.state ≡ Some state
  pub after : TypeState
  pub is : state_after env p.instruction state ≡ Ok after
  pub targets : list_all (is_target env) (targets_of_row (row_of p.instruction)) ≡ true
  pub entry : entry_fits env p ≡ true
  pub frames : result_fits env p (Ok after) ≡ true
  pub before_shallow : is_shallow env state ≡ true
  pub after_shallow : is_shallow env after ≡ true
  pub locals : has_locals env state ≡ true
  pub handlers : are_satisfied env p.instruction.instr.pc state ≡ true
  pub returned : is_returned env (row_of p.instruction) state ≡ true
  pub finished : is_finished (row_of p.instruction) state ≡ true
  pub ended : (row_goes_on (row_of p.instruction) && p.is_last) ≡ false
  pub stray : stray_frames env p ≡ []

pub record IsAccepted (env : Environment) : Type 0 where
  pub mapped : env.is_mapped ≡ true
  pub each : Each (KeepsRules env) (walk env)

-- each method with code is accepted
abbrev pub AreAccepted : World → Type 0
AreAccepted w = (n : ℕ) (env : Environment) → environment w n ≡ Some env → IsAccepted env
