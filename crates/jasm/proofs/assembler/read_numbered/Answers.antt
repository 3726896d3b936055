use Rattle.std.proofs.Common.{refl, ap, ◌∙◌, Err}
use Rattle.jasm.proofs.assembler.read_numbered.Goals as goal

pub returns-in-Err-Bad : goal.returns-in-Err-Bad
returns-in-Err-Bad c = (refl, c.read_line.ensures.bad (c.in-Err-Bad.is ∙ ap (λ e. Err e) c.in-Err-Bad.field-0-is))
