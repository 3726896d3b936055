use Rattle.asm_class.specs.States.{state_of}
use Rattle.jasm.proofs.AddLaws.{unread_adds, misfit_adds}
use Rattle.jasm.proofs.assembler.add_line.Goals as goal

pub returns-in-Err : goal.returns-in-Err
returns-in-Err c = unread_adds c.in-Err.error (state_of c.args.assembly.now) c.args.line c.args.text.now c.args.assembly.now c.requires.some c.in-Err.ensures

pub returns-in-Err-add_line : goal.returns-in-Err-add_line
returns-in-Err-add_line c =
    rw c.error_of.ensures (misfit_adds c.in-Err-add_line.error (state_of c.args.assembly.now) c.args.line c.args.text.now c.add_line.new.self c.in-Ok.said c.in-Ok.rest.now c.in-Ok.ensures c.in-Err-add_line.ensures)
