use Rattle.schedule_model.proofs.PlaceLaws.{pinned_mounted, pinned_stay}
use Rattle.schedule_model.proofs.pinned_threads_stay_mounted.Goals as goal

pub returns-clause-mounted : goal.returns-clause-mounted
returns-clause-mounted g c = λ m. pinned_mounted m

pub returns-clause-stay : goal.returns-clause-stay
returns-clause-stay g c = λ m. pinned_stay m
