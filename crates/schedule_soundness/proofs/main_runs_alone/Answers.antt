use Rattle.schedule_soundness.proofs.MainAlone.{steps_are_of_main}
use Rattle.schedule_soundness.proofs.AloneLaws.{main_runs_alone}
use Rattle.schedule_soundness.proofs.MainGoes.{main_goes_on}
use Rattle.schedule_soundness.proofs.ClockAlone.{nothing_ticks_alone}
use Rattle.schedule_soundness.proofs.main_runs_alone.Goals as goal

pub returns-clause-steps : goal.returns-clause-steps
returns-clause-steps c = λ p first carriers history v e only. steps_are_of_main p first carriers history v e only

pub returns-clause-alone : goal.returns-clause-alone
returns-clause-alone c = λ p first carriers history v r begins e no_ticks made. main_runs_alone p first carriers history v r begins e no_ticks made

pub returns-clause-on : goal.returns-clause-on
returns-clause-on c = λ p first carriers history v n q told begins plain some runs no_ticks made over.
    main_goes_on p first carriers history v n q told begins plain some runs no_ticks made over

pub returns-clause-ticks : goal.returns-clause-ticks
returns-clause-ticks c = λ p first carriers history v n q told begins plain runs reasons made over.
    nothing_ticks_alone p first carriers history v n q told begins plain runs reasons made over
