-- What is found at one instruction, and the first rule that is broken there.
use Rattle.std.specs.Prelude.{Bool, not, List, [], ◌∷◌, Option, ◌&&◌}
use Rattle.std.specs.List.{list_all}
use Rattle.opcodes.specs.declared.op.Instr.{Instr}
use Rattle.instruction_rows.specs.declared.row_why.RowWhy.{RowWhy}
use Rattle.instruction_rows.specs.declared.row_why.RowWhy.TheVariants as row_whys
use Rattle.instruction_rows.specs.Rows.{targets_of_row, row_goes_on}
use Rattle.link_model.specs.declared.sites.Resolution.{Resolution}
use Rattle.verify_types.specs.declared.why.VerifyWhy.{VerifyWhy}
use Rattle.verify_types.specs.declared.why.VerifyWhy.TheVariants as whys
use Rattle.verify_types.specs.TypeStates.{TypeState}
use Rattle.verify_types.specs.Environment.{Instruction, Environment}
use Rattle.verify_types.specs.Effects.{row_of}
use Rattle.verify_types.specs.Handlers.{are_satisfied, is_returned, is_finished}
use Rattle.items.specs.First.{unless}
use Rattle.verify_types.specs.Faults.{is_target, is_shallow, has_locals}
use Rattle.verify_code.specs.declared.findings.Findings.{Findings}

-- an instruction as the walk has it
abbrev pub instruction_of : Instr → Resolution → Instruction
instruction_of i resolution = record { instr = i; resolution = resolution }

-- what is found before the instruction is typed, where `arrives` says that the state in which the method begins fits
abbrev pub findings_at : Environment → Bool → Instruction → Bool → TypeState → Findings
findings_at env arrives i is_last s = record {
  are_targets = list_all (is_target env) (targets_of_row (row_of i));
  arrives = arrives;
  is_shallow = is_shallow env s;
  has_locals = has_locals env s;
  are_satisfied = are_satisfied env i.instr.pc s;
  is_returned = is_returned env (row_of i) s;
  is_finished = is_finished (row_of i) s;
  passes_end = row_goes_on (row_of i) && is_last;
}

-- The rules, in the order of VerifyWhy. `keeps` says which rules the state after the instruction keeps, `fits` that it
-- fits where it goes, and `shallow` that its operand stack is no deeper than it may be.
abbrev pub findings_whys : Findings → (RowWhy → Bool) → Bool → Bool → List (Option VerifyWhy)
findings_whys f keeps fits shallow =
    unless f.are_targets whys.Target
    ∷ unless (f.arrives && fits) whys.Frame
    ∷ unless (keeps row_whys.Kind) whys.Kind
    ∷ unless (keeps row_whys.Depth && f.is_shallow && shallow) whys.Depth
    ∷ unless (keeps row_whys.Locals && f.has_locals) whys.Locals
    ∷ unless f.are_satisfied whys.Handler
    ∷ unless f.is_returned whys.Return
    ∷ unless (keeps row_whys.Init && f.is_finished) whys.Init
    ∷ unless (not f.passes_end) whys.End
    ∷ []
