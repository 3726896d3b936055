use Rattle.jvm_utf8.proofs.TextLaws.{part_of_text}
use Rattle.jvm_utf8.proofs.encoder.append.Goals as goal

pub returns-in_err-put_unit-clause-part : goal.returns-in_err-put_unit-clause-part
returns-in_err-put_unit-clause-part c = part_of_text c.args.units.now c.loop-unit.unit-index _ _ _ c.loop-unit-test.true c.loop-unit.invariant c.put_unit.ensures.part
