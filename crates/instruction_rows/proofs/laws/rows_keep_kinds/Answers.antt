use Rattle.instruction_rows.proofs.RowLaws.{keeps}
use Rattle.instruction_rows.proofs.TableLaws.{sound}
use Rattle.instruction_rows.proofs.laws.rows_keep_kinds.Goals as goal

pub returns-clause-keeps : goal.returns-clause-keeps
returns-clause-keeps c = λ r before after contents is e h nonzero. keeps r before after contents is e h nonzero

pub returns-clause-sound : goal.returns-clause-sound
returns-clause-sound c = λ op. sound op
