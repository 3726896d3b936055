-- A walk without a fault: each instruction has a state and keeps to the rules.
use Rattle.std.proofs.Common.{◌≡◌, ℕ, Bool, true, false, cond, List, [], ◌∷◌, Option, Some, None, refl, ap, sym, subst}
use Rattle.std.specs.Prelude.{map, is_none, is_some}
use Rattle.std.specs.Option.{option_map, option_map_or}
use Rattle.std.specs.Result.{result_ok}
use Rattle.std.specs.List.{list_all}
use Rattle.items.specs.First.{unless, Each, AllNone}
use Rattle.instruction_rows.specs.Rows.{targets_of_row, row_goes_on}
use Rattle.verify_types.specs.declared.why.VerifyWhy.TheVariants as whys
use Rattle.verify_types.specs.TypeStates.{TypeState}
use Rattle.verify_types.specs.Environment.{Instruction, Environment, MapFrame, map_at}
use Rattle.verify_types.specs.Effects.{row_of, state_after}
use Rattle.verify_types.specs.Handlers.{fits_frame}
use Rattle.verify_types.specs.Walk.{Placed, standing, behind, is_end, placed}
use Rattle.verify_types.specs.Faults.{fits_target, fits_next, state_whys, whys_at, pc_fault, stray_frames, placed_faults}
use Rattle.verify_types.specs.Acceptance.{KeepsRules}
use Rattle.verify_types.proofs.CodeLaws.{InOrder}
use Rattle.verify_types.proofs.ListLaws.{and_true, each_split, unmapped, empty}
use Rattle.verify_types.proofs.FaultLaws.{keeps_rules, has_state}

-- the first of these instructions is reached from the one before, or has a frame of the map
abbrev pub IsReached : Environment → Option TypeState → List Instruction → Type 0
IsReached env before [] = Unit {0}
IsReached env before (i ∷ is) = before ≡ None → is_none (map_at env i.instr.pc) ≡ false

pub some_not_none : {A : Type 0} (o : Option A) → is_some o ≡ true → is_none o ≡ false
some_not_none None e = absurd cc
some_not_none (Some x) e = refl

-- the head of a walk
abbrev pub head_of : Environment → Option TypeState → Option TypeState → Instruction → List Instruction → Placed
head_of env entry before i is =
    record { instruction = i; state = standing env i.instr.pc before; entry = entry; is_last = is_end is }

-- where nothing goes on there is a frame at the next instruction
reached_by : (goes_on : Bool) (o : Option TypeState) (fits there : Bool) (s : TypeState) → o ≡ Some s → cond goes_on o None ≡ None
    → cond goes_on fits there ≡ true → there ≡ true
reached_by true o fits there s e none fine = absurd cc
reached_by false o fits there s e none fine = fine

next_reached : (env : Environment) (entry before : Option TypeState) (i : Instruction) (is : List Instruction)
    → KeepsRules env (head_of env entry before i is) → InOrder i.instr.next is → IsReached env (behind env i (standing env i.instr.pc before)) is
next_reached env entry before i [] rules ordered = tt
next_reached env entry before i (j ∷ js) rules ordered =
    λ none.
    let Behind : Option TypeState → Type 0 = λ o. behind env i o ≡ None in
    let from : behind env i (Some rules.state) ≡ None = subst Behind rules.has none in
    let frames = and_true (list_all (fits_target env rules.after) (targets_of_row (row_of i))) (fits_next env (row_of i) i.instr.next rules.after) rules.frames in
    let there = reached_by (row_goes_on (row_of i)) (result_ok (state_after env i rules.state)) (option_map_or (fits_frame env rules.after) (map_at env i.instr.next) true) (is_some (map_at env i.instr.next))
    rules.after (ap (λ r. result_ok r) rules.is) from frames.1 in
    let There : ℕ → Type 0 = λ pc. is_none (map_at env pc) ≡ false in
    subst There (sym ordered.0) (some_not_none (map_at env i.instr.next) there)

-- each instruction keeps to the rules
pub walked : (env : Environment) (entry before : Option TypeState) (pc : ℕ) (is : List Instruction)
    → InOrder pc is → IsReached env before is → Each (λ p. AllNone (placed_faults env p)) (placed env entry before is)
    → Each (KeepsRules env) (placed env entry before is)
walked env entry before pc [] ordered reached none = tt
walked env entry before pc (i ∷ is) ordered reached none =
    let p = head_of env entry before i is in
    let parts = each_split (λ x. x ≡ None) (map (option_map (pc_fault i.instr.pc)) (whys_at env p)) (map (λ (f : MapFrame). Some (pc_fault f.pc whys.Map)) (stray_frames env p)) none.0 in
    let none_here = unmapped (pc_fault i.instr.pc) (whys_at env p) parts.0 in
    let stray = empty (λ (f : MapFrame). pc_fault f.pc whys.Map) (stray_frames env p) parts.1 in
    let state = has_state (state_whys env p) (map_at env i.instr.pc) before none_here reached in
    let At : Option TypeState → Type 0 = λ o. AllNone (option_map_or (state_whys env p) o (unless (is_none (map_at env i.instr.pc)) whys.Map ∷ [])) in
    let rules = keeps_rules env p state.0 state.1 (subst At state.1 none_here) stray in
    (rules, walked env None (behind env i (standing env i.instr.pc before)) i.instr.next is ordered.2 (next_reached env entry before i is rules ordered.2) none.1)
