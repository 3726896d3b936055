use Rattle.schedule_model.proofs.StarveLaws.{mounts_starve_nobody, stalled_not_starved, unmounts_starve_nobody}
use Rattle.schedule_model.proofs.only_steps_and_time_starve.Goals as goal

pub returns-clause-mounts : goal.returns-clause-mounts
returns-clause-mounts g c = λ m. mounts_starve_nobody m

pub returns-clause-unmounts : goal.returns-clause-unmounts
returns-clause-unmounts g c = unmounts_starve_nobody

pub returns-clause-stalled : goal.returns-clause-stalled
returns-clause-stalled g c = stalled_not_starved
