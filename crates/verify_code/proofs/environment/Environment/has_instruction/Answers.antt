use Rattle.std.proofs.Common.{List, ap, subst, sym, ◌∙◌}
use Rattle.std.specs.Prelude.{find, is_some, ◌==◌}
use Rattle.link_model.specs.Resolutions.{meanings}
use Rattle.opcodes.specs.declared.op.Instr.{Instr}
use Rattle.verify_types.specs.Environment.{Environment, instruction_at}
use Rattle.verify_frames.specs.Entries.{Rises}
use Rattle.verify_code.proofs.InstructionLaws.{in_order_rises, is_found}
use Rattle.verify_code.proofs.environment.Environment.has_instruction.Goals as goal

pub has_instruction-requires : goal.has_instruction-requires
has_instruction-requires g c =
    let method = c.self.inside.method in
    subst (λ (is : List Instr). Rises (λ (i : Instr). i.pc) 0 is) (sym c.deref.ensures)
    (in_order_rises 0 method.code.now.code (meanings method.resolutions) c.self.invariant.in_order)

pub returns : goal.returns
returns g c =
    let method = c.self.inside.method in
    c.has_instruction.ensures
    ∙ ap (λ (is : List Instr). is_some (find (λ (i : Instr). i.pc == c.args.pc) is)) c.deref.ensures
    ∙ sym (is_found c.args.pc method.code.now.code (meanings method.resolutions))
    ∙ ap (λ (env : Environment). is_some (instruction_at env c.args.pc)) c.self.view_is
