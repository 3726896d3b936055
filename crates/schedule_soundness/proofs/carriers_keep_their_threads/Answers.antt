use Rattle.schedule_soundness.proofs.Histories.{mounted_left, owed_left, unmounts_stay}
use Rattle.schedule_soundness.proofs.carriers_keep_their_threads.Goals as goal

pub returns-clause-mounted : goal.returns-clause-mounted
returns-clause-mounted c = λ p first v w a c k what ne e. mounted_left p first v w a c k what ne e

pub returns-clause-owed : goal.returns-clause-owed
returns-clause-owed c = λ p first v w a c k t what ne e here. owed_left p first v w a c k t what ne e here

pub returns-clause-allowed : goal.returns-clause-allowed
returns-clause-allowed c = λ p first v w a c k t what ne e goes may. unmounts_stay p first v w a c k t what ne e goes may
