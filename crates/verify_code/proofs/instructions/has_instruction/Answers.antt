use Rattle.std.proofs.Common.{List, ap, sym, ◌∙◌}
use Rattle.std.specs.Prelude.{is_some}
use Rattle.opcodes.specs.declared.op.Instr.{Instr}
use Rattle.verify_frames.specs.Entries.{first_at}
use Rattle.verify_frames.proofs.Rising.{found_from}
use Rattle.verify_code.proofs.instructions.has_instruction.Goals as goal

pub returns : goal.returns
returns c =
    c.is_first_at.ensures
    ∙ ap (λ (is : List Instr). is_some (first_at (λ (i : Instr). i.pc) c.args.pc is)) c.instructions_from.ensures
    ∙ ap (λ o. is_some o) (sym (found_from (λ (i : Instr). i.pc) c.args.pc 0 c.args.code.now c.requires))
