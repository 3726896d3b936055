use Rattle.schedule_soundness.proofs.Hands.{entries_leave_hands, hands_outlast, hands_go_on, rows_are_entries}
use Rattle.schedule_soundness.proofs.Outlasting.{owed_outlasts, unmounts_outlast}
use Rattle.schedule_soundness.proofs.hands_stay.Goals as goal

pub returns-clause-others : goal.returns-clause-others
returns-clause-others c = λ p first v w a c k t n frames what ne e h. entries_leave_hands p first v w a c k t n frames what ne e h

pub returns-clause-all : goal.returns-clause-all
returns-clause-all c = λ p first v w a c t n frames es others e h. hands_outlast p first v w a c t n frames es others e h

pub returns-clause-owed : goal.returns-clause-owed
returns-clause-owed c = λ p first v w a k t es others e here. owed_outlasts p first v w a k t es others e here

pub returns-clause-allowed : goal.returns-clause-allowed
returns-clause-allowed c = λ p first v w a k t es others e goes may. unmounts_outlast p first v w a k t es others e goes may

pub returns-clause-rows : goal.returns-clause-rows
returns-clause-rows c = λ p v c t n frames after h e. hands_go_on p v c t n frames after h e

pub returns-clause-entries : goal.returns-clause-entries
returns-clause-entries c = λ p v c t n frames pick h goes grouped. rows_are_entries p v c t n frames pick h goes grouped
