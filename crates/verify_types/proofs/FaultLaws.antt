-- Faults of a program, of a method and of an instruction.
use Rattle.std.proofs.Common.{◌≡◌, ℕ, ◌+◌, true, false, List, [], ◌∷◌, Option, Some, None, Result, Ok, Err, refl, subst, arith}
use Rattle.std.specs.Prelude.{◌&&◌, slice_get, is_none}
use Rattle.std.specs.Option.{option_map_or}
use Rattle.std.specs.List.{enumerate_from, list_all}
use Rattle.items.specs.First.{unless, AllNone}
use Rattle.items.proofs.FirstLaws.{passed, first_none}
use Rattle.instruction_rows.specs.declared.row_why.RowWhy.{RowWhy}
use Rattle.instruction_rows.specs.declared.row_why.RowWhy.TheVariants as row_whys
use Rattle.instruction_rows.specs.Rows.{targets_of_row, row_goes_on}
use Rattle.instruction_rows.proofs.Steps.{some_is}
use Rattle.link_model.specs.World.{World}
use Rattle.verify_types.specs.declared.why.VerifyWhy.{VerifyWhy}
use Rattle.verify_types.specs.declared.why.VerifyWhy.TheVariants as whys
use Rattle.verify_types.specs.TypeStates.{TypeState}
use Rattle.verify_types.specs.Environment.{Environment, MapFrame, environment}
use Rattle.verify_types.specs.Effects.{row_of, state_after}
use Rattle.verify_types.specs.Handlers.{are_satisfied, is_returned, is_finished}
use Rattle.verify_types.specs.Walk.{Placed}
use Rattle.verify_types.specs.Faults.{is_target, entry_fits, result_fits, keeps_rule, is_shallow, result_is_shallow, has_locals, state_whys, stray_frames, method_faults, fault_in, environment_faults, numbered_faults, world_faults, IsWellTyped}
use Rattle.verify_types.specs.Acceptance.{KeepsRules}
use Rattle.verify_types.proofs.ListLaws.{and_true, not_true, each_flat, unmapped, numbered}

-- ---- a program

-- a well typed program has no fault in a method
pub none_in_method : (w : World) (n : ℕ) (env : Environment) → IsWellTyped w → environment w n ≡ Some env → AllNone (method_faults env)
none_in_method w n env typed is =
    let m = some_is (slice_get w.methods n) _ env is in
    let all = each_flat (λ x. x ≡ None) (numbered_faults w) (enumerate_from 0 w.methods) (first_none (world_faults w) typed) in
    let here = numbered (λ x. AllNone (numbered_faults w x)) 0 n w.methods m.0 all m.1 in
    let at : 0 + n ≡ n = omega arith in
    let P : ℕ → Type 0 = λ i. AllNone (option_map_or (environment_faults i) (environment w i) []) in
    let Q : Option Environment → Type 0 = λ o. AllNone (option_map_or (environment_faults n) o []) in
    unmapped (fault_in env n) (method_faults env) (subst Q is (subst P at here))

-- ---- an instruction

-- an instruction that breaks no rule has a result
result_is : (r : Result TypeState RowWhy) → keeps_rule row_whys.Kind r ≡ true → keeps_rule row_whys.Depth r ≡ true
    → keeps_rule row_whys.Locals r ≡ true → keeps_rule row_whys.Init r ≡ true → (s : TypeState) × (r ≡ Ok s)
result_is (Ok s) a b c d = (s, refl)
result_is (Err row_whys.Kind) a b c d = absurd cc
result_is (Err row_whys.Depth) a b c d = absurd cc
result_is (Err row_whys.Locals) a b c d = absurd cc
result_is (Err row_whys.Init) a b c d = absurd cc

pub keeps_rules : (env : Environment) (p : Placed) (s : TypeState) → p.state ≡ Some s → AllNone (state_whys env p s) → stray_frames env p ≡ [] → KeepsRules env p
keeps_rules env p s has none stray =
    let r = row_of p.instruction in
    let after = state_after env p.instruction s in
    let pc = p.instruction.instr.pc in
    let targets = passed (list_all (is_target env) (targets_of_row r)) whys.Target none.0 in
    let frame = and_true (entry_fits env p) (result_fits env p after) (passed _ whys.Frame none.1.0) in
    let kind = passed (keeps_rule row_whys.Kind after) whys.Kind none.1.1.0 in
    let depths = and_true (keeps_rule row_whys.Depth after && is_shallow env s) (result_is_shallow env after) (passed _ whys.Depth none.1.1.1.0) in
    let depth = and_true (keeps_rule row_whys.Depth after) (is_shallow env s) depths.0 in
    let locals = and_true (keeps_rule row_whys.Locals after) (has_locals env s) (passed _ whys.Locals none.1.1.1.1.0) in
    let handlers = passed (are_satisfied env pc s) whys.Handler none.1.1.1.1.1.0 in
    let returned = passed (is_returned env r s) whys.Return none.1.1.1.1.1.1.0 in
    let init = and_true (keeps_rule row_whys.Init after) (is_finished r s) (passed _ whys.Init none.1.1.1.1.1.1.1.0) in
    let ended = not_true (row_goes_on r && p.is_last) (passed _ whys.End none.1.1.1.1.1.1.1.1.0) in
    let result = result_is after kind depth.0 locals.0 init.0 in
    let Fits : Result TypeState RowWhy → Type 0 = λ x. result_fits env p x ≡ true in
    let Shallow : Result TypeState RowWhy → Type 0 = λ x. result_is_shallow env x ≡ true in
    record {
      state = s;
      has = has;
      after = result.0;
      is = result.1;
      targets = targets;
      entry = frame.0;
      frames = subst Fits result.1 frame.1;
      before_shallow = depth.1;
      after_shallow = subst Shallow result.1 depths.1;
      locals = locals.1;
      handlers = handlers;
      returned = returned;
      finished = init.1;
      ended = ended;
      stray = stray;
    }

-- ---- an instruction that breaks no rule has a state

has_by : (g : TypeState → List (Option VerifyWhy)) (o : Option TypeState) → AllNone (option_map_or g o (Some whys.Map ∷ [])) → (s : TypeState) × (o ≡ Some s)
has_by g None none = let e = none.0 in absurd cc
has_by g (Some s) none = (s, refl)

pub has_state : (g : TypeState → List (Option VerifyWhy)) (o : Option MapFrame) (before : Option TypeState)
    → AllNone (option_map_or g (option_map_or (λ (f : MapFrame). f.state) o before) (unless (is_none o) whys.Map ∷ []))
    → (before ≡ None → is_none o ≡ false) → (s : TypeState) × (option_map_or (λ (f : MapFrame). f.state) o before ≡ Some s)
has_state g None None none arrives = let e = arrives refl in absurd cc
has_state g None (Some s) none arrives = (s, refl)
has_state g (Some f) before none arrives = has_by g f.state none
