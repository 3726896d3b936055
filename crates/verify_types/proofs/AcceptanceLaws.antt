-- A program whose methods are accepted has no fault.
use Rattle.std.proofs.Common.{◌≡◌, ℕ, true, List, [], ◌∷◌, Option, Some, None, Result, Ok, ap, sym, subst}
use Rattle.std.specs.Prelude.{◌&&◌, not, map, is_none}
use Rattle.std.specs.Option.{option_map, option_map_or}
use Rattle.std.specs.List.{enumerate_from, list_all}
use Rattle.items.specs.First.{unless, AllNone}
use Rattle.items.proofs.FirstLaws.{none_first, not_there}
use Rattle.instruction_rows.specs.declared.row_why.RowWhy.{RowWhy}
use Rattle.instruction_rows.specs.declared.row_why.RowWhy.TheVariants as row_whys
use Rattle.instruction_rows.specs.Rows.{targets_of_row, row_goes_on}
use Rattle.link_model.specs.declared.members.MethodInfo.{MethodInfo}
use Rattle.link_model.specs.World.{World}
use Rattle.verify_types.specs.declared.why.VerifyWhy.TheVariants as whys
use Rattle.verify_types.specs.TypeStates.{TypeState}
use Rattle.verify_types.specs.Environment.{Environment, MapFrame, environment, map_at}
use Rattle.verify_types.specs.Effects.{row_of, state_after}
use Rattle.verify_types.specs.Handlers.{are_satisfied, is_returned, is_finished}
use Rattle.verify_types.specs.Walk.{Placed, walk}
use Rattle.verify_types.specs.Faults.{is_target, entry_fits, result_fits, keeps_rule, is_shallow, result_is_shallow, has_locals, state_whys, whys_at, pc_fault, stray_frames, placed_faults, method_faults, fault_in, environment_faults, numbered_faults, world_faults, IsWellTyped}
use Rattle.verify_types.specs.Acceptance.{KeepsRules, IsAccepted, AreAccepted}
use Rattle.verify_types.proofs.ListLaws.{each_all, each_join, flat_each, each_kept, mapped, true_and, option_case}

-- ---- an instruction

-- a result breaks no rule
kept : (why : RowWhy) (r : Result TypeState RowWhy) (s : TypeState) → r ≡ Ok s → keeps_rule why r ≡ true
kept why r s e = ap (λ x. keeps_rule why x) e

state_faultless : (env : Environment) (p : Placed) (h : KeepsRules env p) → AllNone (state_whys env p h.state)
state_faultless env p h =
    let r = row_of p.instruction in
    let after = state_after env p.instruction h.state in
    let Fits : Result TypeState RowWhy → Type 0 = λ x. result_fits env p x ≡ true in
    let Shallow : Result TypeState RowWhy → Type 0 = λ x. result_is_shallow env x ≡ true in
    let kind = kept row_whys.Kind after h.after h.is in
    let depth = kept row_whys.Depth after h.after h.is in
    let locals = kept row_whys.Locals after h.after h.is in
    let init = kept row_whys.Init after h.after h.is in
    let fits = subst Fits (sym h.is) h.frames in
    let shallow = subst Shallow (sym h.is) h.after_shallow in (
      not_there (list_all (is_target env) (targets_of_row r)) whys.Target h.targets,
      (
        not_there (entry_fits env p && result_fits env p after) whys.Frame (true_and (entry_fits env p) (result_fits env p after) h.entry fits),
        (
          not_there (keeps_rule row_whys.Kind after) whys.Kind kind,
          (
            not_there (keeps_rule row_whys.Depth after && is_shallow env h.state && result_is_shallow env after) whys.Depth
                (true_and (keeps_rule row_whys.Depth after && is_shallow env h.state) (result_is_shallow env after) (true_and (keeps_rule row_whys.Depth after) (is_shallow env h.state) depth h.before_shallow) shallow),
            (
              not_there (keeps_rule row_whys.Locals after && has_locals env h.state) whys.Locals (true_and (keeps_rule row_whys.Locals after) (has_locals env h.state) locals h.locals),
              (
                not_there (are_satisfied env p.instruction.instr.pc h.state) whys.Handler h.handlers,
                (
                  not_there (is_returned env r h.state) whys.Return h.returned,
                  (
                    not_there (keeps_rule row_whys.Init after && is_finished r h.state) whys.Init (true_and (keeps_rule row_whys.Init after) (is_finished r h.state) init h.finished),
                    (
                      not_there (not (row_goes_on r && p.is_last)) whys.End (ap (λ b. not b) h.ended),
                      tt,
                    ),
                  ),
                ),
              ),
            ),
          ),
        ),
      ),
    )

placed_faultless : (env : Environment) (p : Placed) → KeepsRules env p → AllNone (placed_faults env p)
placed_faultless env p h =
    let pc = p.instruction.instr.pc in
    let At : Option TypeState → Type 0 = λ o. AllNone (option_map_or (state_whys env p) o (unless (is_none (map_at env pc)) whys.Map ∷ [])) in
    let Stray : List MapFrame → Type 0 = λ fs. AllNone (map (λ (f : MapFrame). Some (pc_fault f.pc whys.Map)) fs) in
    each_join (λ x. x ≡ None) (map (option_map (pc_fault pc)) (whys_at env p)) (map (λ (f : MapFrame). Some (pc_fault f.pc whys.Map)) (stray_frames env p))
    (mapped (pc_fault pc) (whys_at env p) (subst At (sym h.has) (state_faultless env p h)))
    (subst Stray (sym h.stray) tt)

-- ---- a method and a program

pub accepted_faultless : (env : Environment) → IsAccepted env → AllNone (method_faults env)
accepted_faultless env h = (
  not_there env.is_mapped (pc_fault 0 whys.Map) h.mapped,
  flat_each (λ x. x ≡ None) (placed_faults env) (walk env) (each_kept (KeepsRules env) (λ p. AllNone (placed_faults env p)) (placed_faultless env) (walk env) h.each),
)

method_faultless : (w : World) → AreAccepted w → (x : ℕ × MethodInfo) → AllNone (numbered_faults w x)
method_faultless w all x =
    let None' : Option Environment → Type 0 = λ o. AllNone (option_map_or (environment_faults x.0) o []) in
    option_case (AllNone (numbered_faults w x)) (environment w x.0)
    (λ env is. subst None' (sym is) (mapped (fault_in env x.0) (method_faults env) (accepted_faultless env (all x.0 env is))))
    (λ none. subst None' (sym none) tt)

pub world_faultless : (w : World) → AreAccepted w → IsWellTyped w
world_faultless w all =
    none_first (world_faults w) (flat_each (λ x. x ≡ None) (numbered_faults w) (enumerate_from 0 w.methods)
    (each_all (λ x. AllNone (numbered_faults w x)) (method_faultless w all) (enumerate_from 0 w.methods)))
