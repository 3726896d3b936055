use Rattle.round_trip.proofs.OutcomeLaws.{found_comes, missing_comes, bytes_faults}
use Rattle.round_trip.proofs.trial.outcome_of_file.Goals as goal

pub returns-in-Ok-Some-clause-known : goal.returns-in-Ok-Some-clause-known
returns-in-Ok-Some-clause-known g c =
    let found = rw c.in-Ok-Some.field-0-is at c.in-Ok-Some.ensures.known in
    found_comes _ c.args.name.now c.in-Ok-Some.bytes.items _ found
    (rw c.deref.ensures.value at c.outcome_of.ensures.comes) (rw c.deref.ensures.value at c.outcome_of.ensures.long)

pub returns-in-Ok-None-clause-known : goal.returns-in-Ok-None-clause-known
returns-in-Ok-None-clause-known g c =
    let none = rw c.in-Ok-None.field-0-is at c.in-Ok-None.ensures.known in
    missing_comes _ c.args.name.now none

pub returns-in-Ok-Some-clause-faults : goal.returns-in-Ok-Some-clause-faults
returns-in-Ok-Some-clause-faults g c = bytes_faults c.deref.result.now c.outcome_of.result _ _ c.outcome_of.ensures.comes (c.in-Ok-Some.ensures.cause.kept (λ e. cc))
