use Rattle.std.proofs.Common.{refl, drop-cons}
use Rattle.descriptors.proofs.fronts.whole_bad.Goals as goal

pub returns-then-start-units-clause-first : goal.returns-then-start-units-clause-first
returns-then-start-units-clause-first c = rw (drop-cons c.args.units.now c.args.start 0 c.if-start-units.true) refl
