use Rattle.std.proofs.Common.{refl}
use Rattle.carrier_turns.proofs.HandLaws.{run_fits}
use Rattle.carrier_turns.proofs.hand.Hand.local.Goals as goal

pub returns-in-Ok-clause-fits : goal.returns-in-Ok-clause-fits
returns-in-Ok-clause-fits c = λ m k same fits.
    run_fits m c.args.program.now k c.args.self.now _ c.in-Some.mounted c.run_local.new.mounted c.in-Ok.run' same c.requires.may fits c.in-Some.is
    c.run_local.ensures.thread c.in-Ok.ensures.run c.in-Ok.ensures.next c.run_local.ensures.cache
    (record { mounted_is = refl; frozen_is = refl; local_is = refl; asked_is = refl }) refl
