use Rattle.schedule_soundness.proofs.Ahead.{steps_are_entries, yields_are_next}
use Rattle.schedule_soundness.proofs.steps_ahead_are_entries.Goals as goal

pub returns-clause-yields : goal.returns-clause-yields
returns-clause-yields c = λ p r t n frames on h. yields_are_next p r t n frames on h

pub returns-clause-entries : goal.returns-clause-entries
returns-clause-entries c = λ p first v q k t n frames pick may picks h grouped one.
    steps_are_entries p first v q k t n frames pick may picks h grouped one
