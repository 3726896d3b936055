use Rattle.schedule_model.proofs.OtherLaws.{others_leave_mounted, others_leave_owed, stay_allowed}
use Rattle.schedule_model.proofs.carriers_keep_their_threads.Goals as goal

pub returns-clause-mounted : goal.returns-clause-mounted
returns-clause-mounted g c = λ m. others_leave_mounted m

pub returns-clause-owed : goal.returns-clause-owed
returns-clause-owed g c = λ m. others_leave_owed m

pub returns-clause-allowed : goal.returns-clause-allowed
returns-clause-allowed g c = λ m. stay_allowed m
