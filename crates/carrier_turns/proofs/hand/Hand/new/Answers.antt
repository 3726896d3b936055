use Rattle.std.proofs.Common.{refl}
use Rattle.carrier_turns.proofs.FitLaws.{empty_fits}
use Rattle.carrier_turns.proofs.hand.Hand.new.Goals as goal

pub returns-clause-fits : goal.returns-clause-fits
returns-clause-fits c = λ m k below idle.
    empty_fits m k _ below idle (record { mounted_is = refl; frozen_is = refl; local_is = refl; asked_is = refl }) (c.in_ok-cache.ensures m.setting.world)
