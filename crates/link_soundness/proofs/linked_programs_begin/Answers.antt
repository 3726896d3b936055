use Rattle.link_soundness.proofs.Begins.{linked_programs_begin}
use Rattle.link_soundness.proofs.linked_programs_begin.Goals as goal

pub returns : goal.returns
returns c = λ p links has typed. linked_programs_begin p links has typed
