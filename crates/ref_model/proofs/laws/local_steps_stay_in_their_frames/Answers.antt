use Rattle.ref_model.proofs.RowLaws.{row_tops}
use Rattle.ref_model.proofs.StepLaws.{local_steps}
use Rattle.ref_model.proofs.laws.local_steps_stay_in_their_frames.Goals as goal

pub returns-clause-tops : goal.returns-clause-tops
returns-clause-tops c = row_tops

pub returns-clause-steps : goal.returns-clause-steps
returns-clause-steps c = local_steps
