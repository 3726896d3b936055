use Rattle.std.proofs.Common.{refl, sym, ◌∙◌}
use Rattle.carrier_turns.proofs.HandLaws.{freeze_fits, same_kept}
use Rattle.carrier_turns.proofs.hand.Hand.freeze.Goals as goal

pub returns-in-Ok-clause-fits : goal.returns-in-Ok-clause-fits
returns-in-Ok-clause-fits c = λ m k fits.
    freeze_fits m k c.args.self.now _ c.in-Ok.frozen c.requires fits
    (c.in-Ok.ensures.ok ∙ same_kept c.in-Some.mounted c.requires.kept (sym c.in-Some.is ∙ c.take.ensures.value ∙ c.requires.mounted))
    (record { mounted_is = c.take.ensures.after; frozen_is = refl; local_is = refl; asked_is = refl }) refl fits.selected
