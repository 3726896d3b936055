use Rattle.std.proofs.Common.{ℕ, List, [], Option, get_or, sym, ap, ◌∙◌}
use Rattle.std.specs.Option.{option_copied}
use Rattle.link_model.specs.Resolutions.{meanings}
use Rattle.opcodes.specs.declared.op.Instr.{Instr}
use Rattle.link_model.specs.declared.sites.Resolution.{Resolution}
use Rattle.runtime_program.specs.Instructions.{instruction_by}
use Rattle.runtime_program.proofs.InstructionLaws.{instruction_is}
use Rattle.runtime_program.proofs.instructions.instruction.Goals as goal

pub returns-in-Some : goal.returns-in-Some
returns-in-Some c =
    let code = c.in-Some.code.now in
    c.instruction_at.ensures
    ∙ ap (λ (instrs : List Instr). instruction_by instrs (meanings c.resolutions.result) c.index_at.result) c.deref.ensures
    ∙ ap (λ (resolutions : List Resolution). instruction_by code.code resolutions c.index_at.result) c.resolutions.ensures
    ∙ ap (λ (index : Option ℕ). instruction_by code.code (get_or c.args.tables.now.resolutions c.args.method []) index) c.index_at.ensures
    ∙ instruction_is c.args.tables.now c.args.method c.args.pc code (sym c.code.ensures.code ∙ ap option_copied c.in-Some.is)
