use Rattle.schedule_soundness.proofs.FrameLaws.{steps_leave_others, entries_leave_others, time_leaves}
use Rattle.schedule_soundness.proofs.frames_stay.Goals as goal

pub returns-clause-steps : goal.returns-clause-steps
returns-clause-steps c = λ p r q t pick e. steps_leave_others p r q t pick e

pub returns-clause-entries : goal.returns-clause-entries
returns-clause-entries c = λ p r q t n pick e. entries_leave_others p r q t n pick e

pub returns-clause-time : goal.returns-clause-time
returns-clause-time c = λ r q now u frames e at. time_leaves r q now u frames e at
