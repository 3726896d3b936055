-- What may be wrong with a method, as one list in order (JVMS 4.10.1; the order: own): by rising pc, and at one instruction in the
-- order of VerifyWhy. A program is well typed where nothing is wrong.
use Rattle.std.specs.Prelude.{◌≡◌, ℕ, ℤ, Bool, true, false, not, List, [], ◌∷◌, ◌++◌, Option, Some, None, Result, Ok, Err, is_none, is_some, length, map, filter, nat_lt, nat_le, ◌&&◌, ◌||◌, if◌then◌else◌}
use Rattle.std.specs.Option.{option_map, option_map_or, option_and_then}
use Rattle.std.specs.List.{flat_map, list_all, enumerate_from}
use Rattle.items.specs.First.{unless, first_some}
use Rattle.instruction_rows.specs.declared.row_why.RowWhy.{RowWhy}
use Rattle.instruction_rows.specs.declared.row_why.RowWhy.TheVariants as row_whys
use Rattle.instruction_rows.specs.Pcs.{pc_of}
use Rattle.instruction_rows.specs.Rows.{Row, targets_of_row, row_goes_on}
use Rattle.link_model.specs.declared.members.MethodInfo.{MethodInfo}
use Rattle.link_model.specs.World.{World}
use Rattle.verify_types.specs.declared.why.VerifyWhy.{VerifyWhy}
use Rattle.verify_types.specs.declared.why.VerifyWhy.TheVariants as whys
use Rattle.verify_types.specs.declared.fault.VerifyFault.{VerifyFault}
use Rattle.verify_types.specs.declared.fault.PcFault.{PcFault}
use Rattle.verify_types.specs.TypeStates.{TypeState}
use Rattle.verify_types.specs.Environment.{MapFrame, Environment, environment, map_at, instruction_at}
use Rattle.verify_types.specs.Effects.{row_of, state_after}
use Rattle.verify_types.specs.Handlers.{fits_frame, are_satisfied, is_returned, is_finished}
use Rattle.verify_types.specs.Walk.{Placed, walk}

-- ---- rules of one instruction

-- whether an instruction and a frame of the map lie at the target
abbrev pub is_target : Environment → ℤ → Bool
is_target env target =
    option_map_or (λ pc. is_some (instruction_at env pc) && is_some (map_at env pc)) (pc_of target) false

-- the frame of the map at a target
abbrev pub frame_at : Environment → ℤ → Option MapFrame
frame_at env target = option_and_then (map_at env) (pc_of target)

-- whether the state fits the frame at the target, if there is one
abbrev pub fits_target : Environment → TypeState → ℤ → Bool
fits_target env s target = option_map_or (fits_frame env s) (frame_at env target) true

-- Whether the state fits the frame of the map at the next instruction. After an instruction that doesn't go on there is to be
-- one.
abbrev pub fits_next : Environment → Row → ℕ → TypeState → Bool
fits_next env r next s =
    if row_goes_on r then option_map_or (fits_frame env s) (map_at env next) true else is_some (map_at env next)

-- whether the state after an instruction fits where it goes; where it has none, it isn't judged
abbrev pub result_fits : Environment → Placed → Result TypeState RowWhy → Bool
result_fits env p (Err why) = true
result_fits env p (Ok s) =
    let r = row_of p.instruction in
    list_all (fits_target env s) (targets_of_row r) && (p.is_last || fits_next env r p.instruction.instr.next s)

-- whether the state in which the method begins fits the frame of the map here, if there is one
abbrev pub entry_fits : Environment → Placed → Bool
entry_fits env p =
    option_map_or (λ s. option_map_or (fits_frame env s) (map_at env p.instruction.instr.pc) true) p.entry true

abbrev pub is_why : RowWhy → RowWhy → Bool
is_why row_whys.Kind row_whys.Kind = true
is_why row_whys.Depth row_whys.Depth = true
is_why row_whys.Locals row_whys.Locals = true
is_why row_whys.Init row_whys.Init = true
is_why a b = false

-- whether the instruction doesn't break this rule
abbrev pub keeps_rule : RowWhy → Result TypeState RowWhy → Bool
keeps_rule why (Ok s) = true
keeps_rule why (Err other) = not (is_why why other)

-- whether the operand stack is no deeper than the method may have it
abbrev pub is_shallow : Environment → TypeState → Bool
is_shallow env s = nat_le (length s.types.stack) env.max_stack

abbrev pub result_is_shallow : Environment → Result TypeState RowWhy → Bool
result_is_shallow env (Ok s) = is_shallow env s
result_is_shallow env (Err why) = true

abbrev pub has_locals : Environment → TypeState → Bool
has_locals env s = nat_le (length s.types.locals) env.max_locals

-- the rules, in the order of VerifyWhy, where the state after the instruction is this
abbrev pub whys_after : Environment → Placed → TypeState → Result TypeState RowWhy → List (Option VerifyWhy)
whys_after env p s after =
    let r = row_of p.instruction in
    unless (list_all (is_target env) (targets_of_row r)) whys.Target
    ∷ unless (entry_fits env p && result_fits env p after) whys.Frame
    ∷ unless (keeps_rule row_whys.Kind after) whys.Kind
    ∷ unless (keeps_rule row_whys.Depth after && is_shallow env s && result_is_shallow env after) whys.Depth
    ∷ unless (keeps_rule row_whys.Locals after && has_locals env s) whys.Locals
    ∷ unless (are_satisfied env p.instruction.instr.pc s) whys.Handler
    ∷ unless (is_returned env r s) whys.Return
    ∷ unless (keeps_rule row_whys.Init after && is_finished r s) whys.Init
    ∷ unless (not (row_goes_on r && p.is_last)) whys.End
    ∷ []

abbrev pub state_whys : Environment → Placed → TypeState → List (Option VerifyWhy)
state_whys env p s = whys_after env p s (state_after env p.instruction s)

-- An instruction without a state has a frame of the map that names a constant that is no class, or comes after a fault.
abbrev pub whys_at : Environment → Placed → List (Option VerifyWhy)
whys_at env p =
    option_map_or (state_whys env p) p.state (unless (is_none (map_at env p.instruction.instr.pc)) whys.Map ∷ [])

-- ---- a method

abbrev pub pc_fault : ℕ → VerifyWhy → PcFault
pc_fault pc why = record { pc = pc; why = why }

-- whether a pc lies after that of the instruction, and before the next instruction, if there is one
abbrev pub is_inside : Placed → ℕ → Bool
is_inside p pc = nat_lt p.instruction.instr.pc pc && (p.is_last || nat_lt pc p.instruction.instr.next)

-- the frames of the map that lie at no instruction, up to the next one
abbrev pub stray_frames : Environment → Placed → List MapFrame
stray_frames env p = filter (λ (f : MapFrame). is_inside p f.pc) env.map

abbrev pub placed_faults : Environment → Placed → List (Option PcFault)
placed_faults env p =
    map (option_map (pc_fault p.instruction.instr.pc)) (whys_at env p)
    ++ map (λ (f : MapFrame). Some (pc_fault f.pc whys.Map)) (stray_frames env p)

abbrev pub method_faults : Environment → List (Option PcFault)
method_faults env = unless env.is_mapped (pc_fault 0 whys.Map) ∷ flat_map (placed_faults env) (walk env)

abbrev pub method_fault : Environment → Option PcFault
method_fault env = first_some (method_faults env)

-- ---- a program: class by class and method by method, which is the order of the methods' numbers

-- a fault of the method with this number
abbrev pub fault_in : Environment → ℕ → PcFault → VerifyFault
fault_in env n f = record { class = env.method.class; method = n; pc = f.pc; why = f.why }

abbrev pub environment_faults : ℕ → Environment → List (Option VerifyFault)
environment_faults n env = map (option_map (fault_in env n)) (method_faults env)

-- those of the method with this number, which are none where it has no code
abbrev pub numbered_faults : World → ℕ × MethodInfo → List (Option VerifyFault)
numbered_faults w m = option_map_or (environment_faults m.0) (environment w m.0) []

abbrev pub world_faults : World → List (Option VerifyFault)
world_faults w = flat_map (numbered_faults w) (enumerate_from 0 w.methods)

abbrev pub first_fault : World → Option VerifyFault
first_fault w = first_some (world_faults w)

-- The program is well typed.
abbrev pub IsWellTyped : World → Type 0
IsWellTyped w = first_fault w ≡ None
