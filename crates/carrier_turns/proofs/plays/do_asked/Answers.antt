use Rattle.carrier_turns.proofs.plays.do_asked.Goals as goal

pub returns-in-Run-Freeze-clause-fits : goal.returns-in-Run-Freeze-clause-fits
returns-in-Run-Freeze-clause-fits g c = λ m k same fits. c.freeze.ensures.fits m k fits
