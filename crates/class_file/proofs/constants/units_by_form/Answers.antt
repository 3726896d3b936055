use Rattle.std.proofs.Common.{length, refl, ap, arith}
use Rattle.jvm_utf8.specs.Units as utf8
use Rattle.jvm_utf8.proofs.TextLaws.{found}
use Rattle.class_file.specs.Texts.{appended}
use Rattle.class_file.proofs.CostLaws.{no_more_units}
use Rattle.class_file.proofs.TextPlaces.{are_appended}
use Rattle.class_file.proofs.constants.units_by_form.Goals as goal

pub returns-in-Ok-clause-read : goal.returns-in-Ok-clause-read
returns-in-Ok-clause-read g c =
    let p = are_appended c.args.units.now.items c.decode_onto.new.units.items (utf8.units_of c.args.text.now) c.in-Ok.ensures.value in
    rw p.0 refl

pub returns-in-Ok-clause-kept : goal.returns-in-Ok-clause-kept
returns-in-Ok-clause-kept g c = (are_appended c.args.units.now.items c.decode_onto.new.units.items (utf8.units_of c.args.text.now) c.in-Ok.ensures.value).1

pub returns-in-Ok-clause-few : goal.returns-in-Ok-clause-few
returns-in-Ok-clause-few g c =
    let added = appended c.args.units.now.items c.decode_onto.new.units.items in
    let p = are_appended c.args.units.now.items c.decode_onto.new.units.items (utf8.units_of c.args.text.now) c.in-Ok.ensures.value in
    omega (arith, ap length (found c.args.text.now added p.0).1, no_more_units added)
