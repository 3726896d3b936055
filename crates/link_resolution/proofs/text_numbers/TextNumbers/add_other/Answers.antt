use Rattle.std.proofs.Common.{refl}
use Rattle.link_resolution.proofs.TextMap.{adds_new}
use Rattle.link_resolution.proofs.TextNumberLaws.{adds_other, other_is_free}
use Rattle.link_resolution.proofs.text_numbers.TextNumbers.add_other.Goals as goal

pub returns-clause-ok : goal.returns-clause-ok
returns-clause-ok c =
    let t = c.args.self.now in
    let name = c.args.text.now in
    adds_other t (record { texts = t.texts; first = t.first; others = c.insert.new.self }) name c.args.number refl refl
    (adds_new t.others c.insert.new.self c.in_ok-key.key name c.args.number c.in_ok-key.ensures.items (other_is_free t name c.requires) c.in_ok-insert.ensures.updates)
