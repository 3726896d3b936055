use Rattle.std.proofs.Common.{List, length, refl, ap, ◌∙◌}
use Rattle.link_resolution.specs.declared.text_numbers.Numbered.{Numbered}
use Rattle.link_resolution.proofs.TextNumberLaws.{adds_numbered, alike, on_err}
use Rattle.link_resolution.proofs.text_numbers.TextNumbers.add_first.Goals as goal

pub returns-in_err-insert-clause-err : goal.returns-in_err-insert-clause-err
returns-in_err-insert-clause-err c =
    on_err _ _
    (alike c.args.self.now (record { texts = c.push.new.self; first = c.insert.new.self; others = c.args.self.now.others }) (record { text = c.from-text.result; number = c.args.number }) c.args.text.now c.args.hash c.requires.hash
    (c.from-text.ensures ∙ c.in_ok-from_slice.ensures.items) c.requires.free c.in_ok-push.ensures.items c.in_err-insert.ensures.err refl)

pub returns-clause-ok : goal.returns-clause-ok
returns-clause-ok c =
    adds_numbered c.args.self.now (record { texts = c.push.new.self; first = c.insert.new.self; others = c.args.self.now.others }) (record { text = c.from-text.result; number = c.args.number }) c.args.text.now c.args.hash c.in_ok-place.place c.requires.hash
    (c.from-text.ensures ∙ c.in_ok-from_slice.ensures.items) c.requires.free c.requires.none c.in_ok-push.ensures.items c.in_ok-insert.ensures.updates
    (c.in_ok-place.ensures ∙ ap (λ (xs : List Numbered). length xs) c.deref.ensures.value) refl
