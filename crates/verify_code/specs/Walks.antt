-- The walk over the instructions of a method, a step at a time.
use Rattle.std.specs.Prelude.{◌≡◌, ℕ, Bool, true, List, Option, Some, None, Ok, Err, ◌&&◌, ◌||◌, if◌then◌else◌}
use Rattle.std.specs.Option.{option_map_or}
use Rattle.std.specs.List.{flat_map, list_all}
use Rattle.opcodes.specs.declared.op.Instr.{Instr}
use Rattle.instruction_rows.specs.Rows.{Row, targets_of_row}
use Rattle.link_model.specs.declared.sites.Resolution.{Resolution}
use Rattle.verify_types.specs.declared.fault.PcFault.{PcFault}
use Rattle.verify_types.specs.TypeStates.{TypeState}
use Rattle.verify_types.specs.Environment.{Instruction, Environment, map_at}
use Rattle.verify_types.specs.Effects.{state_after}
use Rattle.verify_types.specs.Handlers.{fits_frame}
use Rattle.verify_types.specs.Walk.{Placed, behind, placed, walk}
use Rattle.items.specs.First.{first_some}
use Rattle.verify_types.specs.Faults.{fits_target, fits_next, state_whys, whys_at, placed_faults}
use Rattle.verify_frames.specs.declared.known_state.StateAfter.{StateAfter}
use Rattle.verify_frames.specs.declared.known_state.KnownState.{KnownState}
use Rattle.verify_frames.specs.KnownStates.{AllHold, Holds, going, type_state}
use Rattle.verify_code.specs.Findings.{instruction_of}
use Rattle.verify_code.specs.declared.walk.After.{After}
use Rattle.verify_code.specs.declared.walk.After.TheVariants as afters
use Rattle.verify_code.specs.declared.walk.Verdict.{Verdict}
use Rattle.verify_code.specs.declared.walk.Verdict.TheVariants as verdicts
use Rattle.verify_code.specs.declared.walk.Passage.{Passage}
use Rattle.verify_code.specs.declared.walk.Passage.TheVariants as passages
use Rattle.verify_code.specs.declared.walk.Step.{Step}
use Rattle.verify_code.specs.declared.walk.Step.TheVariants as steps

-- the state in which the method begins, at its first instruction
abbrev pub entry_of : Bool → Option TypeState → Option TypeState
entry_of is_entry before = if is_entry then before else None

-- whether that state fits the frame of the map at a pc, if there are both
abbrev pub arrives : Environment → ℕ → Option TypeState → Bool
arrives env pc entry =
    option_map_or (λ s. option_map_or (fits_frame env s) (map_at env pc) true) entry true

abbrev pub place : Instr → Resolution → Option TypeState → Option TypeState → Bool → Placed
place i resolution state entry is_last =
    record { instruction = instruction_of i resolution; state = state; entry = entry; is_last = is_last }

-- whether the state after an instruction of this row fits where it goes
abbrev pub goes_to : Environment → Row → ℕ → Bool → TypeState → Bool
goes_to env r next is_last s = list_all (fits_target env s) (targets_of_row r) && (is_last || fits_next env r next s)

-- the state after an instruction, or the rule of its own that it breaks
abbrev pub IsAfter : Environment → Instruction → TypeState → After → Type 0
IsAfter env i s (afters.Typed after) = (state_after env i s ≡ Ok (type_state after)) × Holds env after
IsAfter env i s (afters.Broken why) = state_after env i s ≡ Err why

-- no rule is broken, and this is the state after the instruction
pub record IsTyped (env : Environment) (p : Placed) (s : TypeState) (after : KnownState) : Type 0 where
  pub none : first_some (state_whys env p s) ≡ None
  pub is : state_after env p.instruction s ≡ Ok (type_state after)
  pub holds : Holds env after

abbrev pub IsVerdict : Environment → Placed → TypeState → Verdict → Type 0
IsVerdict env p s (verdicts.Broken why) = first_some (state_whys env p s) ≡ Some why
IsVerdict env p s (verdicts.Typed after) = IsTyped env p s after

-- no rule is broken, and this state goes on
pub record IsPassed (env : Environment) (p : Placed) (after : StateAfter) : Type 0 where
  pub none : first_some (whys_at env p) ≡ None
  pub is : going after ≡ behind env p.instruction p.state
  pub holds : AllHold env after.known

abbrev pub IsPassage : Environment → Placed → Passage → Type 0
IsPassage env p (passages.Broken why) = first_some (whys_at env p) ≡ Some why
IsPassage env p (passages.On after) = IsPassed env p after

-- there is no fault, and this state goes on
pub record GoesOn (env : Environment) (p : Placed) (after : StateAfter) : Type 0 where
  pub none : first_some (placed_faults env p) ≡ None
  pub is : going after ≡ behind env p.instruction p.state
  pub holds : AllHold env after.known

abbrev pub IsStep : Environment → Placed → Step → Type 0
IsStep env p (steps.Fault fault) = first_some (placed_faults env p) ≡ Some fault
IsStep env p (steps.On after) = GoesOn env p after

-- the first fault at these instructions
abbrev pub fault_from : Environment → Option TypeState → Option TypeState → List Instruction → Option PcFault
fault_from env entry before is = first_some (flat_map (placed_faults env) (placed env entry before is))

abbrev pub walk_fault : Environment → Option PcFault
walk_fault env = first_some (flat_map (placed_faults env) (walk env))
