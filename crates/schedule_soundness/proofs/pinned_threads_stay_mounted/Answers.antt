use Rattle.schedule_soundness.proofs.Histories.{pinned_are_mounted, pinned_stay_mounted}
use Rattle.schedule_soundness.proofs.pinned_threads_stay_mounted.Goals as goal

pub returns-clause-mounted : goal.returns-clause-mounted
returns-clause-mounted c = λ p first v a goes. pinned_are_mounted p first v a goes

pub returns-clause-stay : goal.returns-clause-stay
returns-clause-stay c = λ p first v a c t may. pinned_stay_mounted p first v a c t may
