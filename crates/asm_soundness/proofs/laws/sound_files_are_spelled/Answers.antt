use Rattle.asm_soundness.proofs.FileLaws.{file_is_spelled}
use Rattle.asm_soundness.proofs.laws.sound_files_are_spelled.Goals as goal

pub returns : goal.returns
returns c = file_is_spelled
