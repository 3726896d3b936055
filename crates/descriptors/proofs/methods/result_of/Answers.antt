use Rattle.descriptors.proofs.FrontKind.{void_text, kind_text, kind_alone}
use Rattle.descriptors.proofs.methods.result_of.Goals as goal

pub returns-then-units-eq-VOID_LETTER : goal.returns-then-units-eq-VOID_LETTER
returns-then-units-eq-VOID_LETTER c = (tt, void_text c.args.units.now c.requires c.if-units-eq-VOID_LETTER.true)

pub returns : goal.returns
returns c =
    let found = c.in_ok-kind.ensures in
    (found.0, kind_alone c.args.units.now _ _ (kind_text c.args.units.now c.requires c.if-units-eq-VOID_LETTER.false) found.0 found.1)
